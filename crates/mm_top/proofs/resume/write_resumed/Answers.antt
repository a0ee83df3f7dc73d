use Rattle.std.proofs.{Common.{◌≡◌, [], refl, sym, ap, ◌∙◌, subst, arith}, Math.Logic.∥∥₁_map}
use Rattle.mm_io.proofs.Known.{writes_same}
use Rattle.mm_model.specs.{Image.start, State.State, Run.uses, Report.report}
use Rattle.mm_machine.{specs.{Machine.state_of, Snapshot.{Parts, CanRestore, restored}}, proofs.Keeping.valid_core}
use Rattle.mm_checkpoint.{specs.Checkpoints.saved_of, proofs.Forms.have_form}
use Rattle.mm_top.specs.Saving.{HasState}
use Rattle.mm_top.proofs.{Issued.further, Reported.{start_state, ends_written}, SavedForms.can_begin}
use Rattle.mm_sched.specs.Orders.{items_from}
use Rattle.mm_top.proofs.resume.write_resumed.Goals as goal

pub restore-requires : goal.restore-requires
restore-requires g c =
    let i = c.args.image.now in
    let p : Parts = c.args.checkpoint.now.snapshot in
    subst (λ (s : State). CanRestore s p) (sym (start_state i c.in_ok-machine.machine c.in_ok-machine.ensures.stands))
    (can_begin i p c.args.checkpoint.now.last c.in_ok-machine.ensures.image c.requires.checkpoint)

pub issue-requires-clause-few : goal.issue-requires-clause-few
issue-requires-clause-few g c = omega (arith, c.requires.few, c.requires.checkpoint.cycles, c.restore.ensures.shown.cycles)

pub returns : goal.returns
returns g c =
    let i = c.args.image.now in
    let p : Parts = c.args.checkpoint.now.snapshot in
    let last = c.args.checkpoint.now.last in
    let s : State = state_of c.restore.new.self in
    let items = items_from c.args.order.now s last c.args.cycles in
    let is : s ≡ restored (start i) p = c.restore.ensures.state ∙ ap (λ (x : State). restored x p) (start_state i c.in_ok-machine.machine c.in_ok-machine.ensures.stands) in
    let has : HasState i (saved_of p last) s = record {
      alike = record {
        version = ap (λ (x : State). x.core.version) is;
        split = ap (λ (x : State). x.core.split) is;
        frames = ap (λ (x : State). x.memory.frames) is;
        core = ∥∥₁_map c.restore.new.self.valid (λ k. valid_core s k);
      };
      saved = sym (have_form i s p last c.in_ok-machine.ensures.image c.requires.checkpoint.slots c.restore.ensures.shown);
    } in
    let went = c.issue.ensures.goes in
    ends_written _ _ _ _ (s, has, (items, further c.args.order.now s last c.args.cycles, refl)) _ _ c.ended.ensures
    (writes_same (c.report.ensures.counts (uses s items) (went.takes.each [] c.restore.ensures.stands)) (ap (λ (x : State). report x i (g.M.Inspect.tells (uses s items))) went.state))
