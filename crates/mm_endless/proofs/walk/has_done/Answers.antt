use Rattle.std.proofs.Common.{sym, subst, arith}
use Rattle.std.proofs.lemmas.{List.take_all, List.Elements.Contains-get_or}
use Rattle.std.specs.Prelude.{Contains}
use Rattle.mm_endless.proofs.walk.has_done.Goals as goal

pub bounds-marks-node : goal.bounds-marks-node
bounds-marks-node c = c.requires _ (Contains-get_or c.args.nodes.now c.loop-node.node-index 0 c.loop-node-test.true)

pub returns-clause-no : goal.returns-clause-no
returns-clause-no c = λ e v there.
    let past = c.loop-node-test.false in
    c.loop-node.invariant v (subst (λ l. Contains l v) (sym (take_all c.loop-node.node-index c.args.nodes.now (omega (arith, past)))) there)
