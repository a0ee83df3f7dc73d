use Rattle.std.proofs.Common.{◌⊎◌, sym, subst}
use Rattle.std.specs.Prelude.{Contains}
use Rattle.mm_hold.specs.{Conducts.AreAll, Graphs.HandsAt}
use Rattle.mm_hold.proofs.Walked.{hands_pushed}
use Rattle.mm_hold.proofs.graph.add_handed.Goals as goal

pub returns-in_ok-push : goal.returns-in_ok-push
returns-in_ok-push c =
    let kept = c.args.kernel.now.kept in
    let keys = c.args.keys.now in
    let old = c.args.nodes.now.items in
    subst (AreAll (λ h. Contains old h ⊎ HandsAt kept keys c.args.slot c.args.bits h)) (sym c.in_ok-push.ensures.items)
    (hands_pushed kept keys c.requires old c.args.slot c.args.bits c.in-Some.node c.in-Some.ensures)
