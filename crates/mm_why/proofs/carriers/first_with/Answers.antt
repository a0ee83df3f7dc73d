use Rattle.std.proofs.Common.{◌≡◌, ℕ, length, MatchOption, subst, rules}
use Rattle.mm_why.{specs.Carrying.IsWith, proofs.Carrying.with_more}
use Rattle.mm_why.proofs.carriers.first_with.Goals as goal

pub loop-k-preserved : goal.loop-k-preserved
loop-k-preserved c =
    with_more c.args.graph.now c.args.places.now c.args.right c.loop-k.k c.loop-k.best c.kept_place.result c.earlier-best.result c.loop-k.invariant c.kept_place.ensures c.earlier-best.ensures

pub returns : goal.returns
returns c =
    let e : c.loop-k.k ≡ length c.args.graph.now.nodes.items = search rules in
    subst (λ n. MatchOption c.loop-k.best ((t : ℕ) → IsWith c.args.graph.now c.args.places.now c.args.right n t → ⊥) (IsWith c.args.graph.now c.args.places.now c.args.right n)) e
    c.loop-k.invariant
