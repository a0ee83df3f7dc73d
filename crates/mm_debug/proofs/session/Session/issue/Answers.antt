use Rattle.std.proofs.Common.{ap, arith}
use Rattle.mm_model.specs.State.{State}
use Rattle.mm_debug.{specs.Shown.session_of, proofs.Stepping.{item_below_limit, robin_small, issued_total}}
use Rattle.mm_debug.proofs.session.Session.issue.Goals as goal

pub after-self-requires : goal.after-self-requires
after-self-requires g c = robin_small (session_of c.args.self.now) c.args.item c.args.self.now.machine.valid c.in-Robin.is c.requires

pub invariant_of-self : goal.invariant_of-self
invariant_of-self g c =
    let s = session_of c.args.self.now in
    record {
      within = omega (arith, ap (λ (t : State). t.cycles) c.cycle.ensures.state, issued_total s c.args.item, item_below_limit s c.args.item c.requires);
    }
