use Rattle.std.proofs.Common.{sym, ap, ◌∙◌, subst}
use Rattle.mm_endless.specs.Stages.{Stage, stage_of, is_met, IsLast}
use Rattle.mm_endless.proofs.Ending.{met_done}
use Rattle.mm_endless.proofs.walk.Walk.visit.Goals as goal

pub returns-clause-done : goal.returns-clause-done
returns-clause-done c =
    let s : Stage = stage_of c.loop-node.self in
    let inv = c.loop-node.invariant in
    let none = subst (IsLast c.deref.result.now) c.in_default.is c.last.ensures in
    met_done c.loop-node.self.graph.now s inv.stage (sym c.deref.ensures.value ∙ none) c.args.root
    (λ unmet. let e = sym (ap is_met unmet) ∙ inv.met in cc)
