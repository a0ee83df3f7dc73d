use Rattle.std.proofs.Common.{◌≡◌, ◌⊎◌, sym, subst, arith}
use Rattle.std.specs.Prelude.{Contains}
use Rattle.mm_hold.specs.{Conducts.AreAll, Graphs.ThroughDoor}
use Rattle.mm_hold.proofs.Walked.{through_pushed}
use Rattle.mm_hold.proofs.graph.add_behind.Goals as goal

pub returns-in_ok-push : goal.returns-in_ok-push
returns-in_ok-push c =
    let kept = c.args.kernel.now.kept in
    let keys = c.args.keys.now in
    let old = c.args.behind.now.items in
    let o = c.args.origin in
    let kind : o.0 ≡ 0 = omega (arith, c.if-origin-ne0.false) in
    subst (AreAll (λ b. Contains old b ⊎ ThroughDoor kept keys o c.args.bits b)) (sym c.in_ok-push.ensures.items)
    (through_pushed kept keys c.requires.rising c.requires.keys old o c.args.bits c.in-Some.at c.in-Some-node_of.node kind c.in-Some.ensures c.in-Some-node_of.ensures)
