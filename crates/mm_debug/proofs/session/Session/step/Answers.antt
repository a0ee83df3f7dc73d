use Rattle.std.proofs.Common.{◌+◌, ◌-◌, sym, ap, ◌∙◌, arith}
use Rattle.mm_debug.specs.{Session.{Session, next_item, stepped}, Shown.session_of}
use Rattle.mm_debug.proofs.Stepping.{stepped_none, stepped_ends, stepped_goes}
use Rattle.mm_debug.proofs.session.Session.step.Goals as goal

pub loop-preserved : goal.loop-preserved
loop-preserved g c =
    let less = c.args.count - (c.loop.counter + 1) in
    c.loop.invariant
    ∙ stepped_goes (session_of c.loop.self) c.in-Some.item (c.args.count - c.loop.counter) less (sym {b = next_item (session_of c.loop.self)} c.in-Some.ensures) (omega arith)
    ∙ ap (λ (s : Session). stepped s less) (sym c.issue.ensures.session)

pub returns-after-loop : goal.returns-after-loop
returns-after-loop g c = sym (c.loop.invariant ∙ stepped_none (session_of c.loop.self) (c.args.count - c.loop.counter) (omega arith))

pub returns-in_default : goal.returns-in_default
returns-in_default g c = sym (c.loop.invariant ∙ stepped_ends (session_of c.loop.self) (c.args.count - c.loop.counter) (sym {b = next_item (session_of c.loop.self)} c.in_default.ensures))
