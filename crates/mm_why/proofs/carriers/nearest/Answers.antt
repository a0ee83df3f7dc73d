use Rattle.std.proofs.{Common.{◌+◌, length, sym, ap, ◌∙◌, subst}, lemmas.List.length_push}
use Rattle.mm_flow.specs.Edges.{right_at}
use Rattle.mm_why.{specs.Carrying.{AreNearest, IsOver}, proofs.Carrying.nearest_more}
use Rattle.mm_why.proofs.carriers.nearest.Goals as goal

pub loop-k-preserved : goal.loop-k-preserved
loop-k-preserved c =
    let l = length_push c.loop-k.above.items c.earlier.result in (
      ap length c.in_ok-append.ensures ∙ l ∙ ap (λ v. v + 1) c.loop-k.invariant.0,
      subst (AreNearest c.args.graph.now.parents.items c.args.places.now (right_at c.args.graph.now.nodes.items c.args.right)) (sym c.in_ok-append.ensures)
          (nearest_more c.args.graph.now.parents.items c.args.places.now
          (right_at c.args.graph.now.nodes.items c.args.right) c.loop-k.above.items c.loop-k.k
          c.kept_place-own.result c.over-upper.result c.earlier.result
          c.loop-k.invariant.1 c.loop-k.invariant.0 c.kept_place-own.ensures
          (subst (λ v. IsOver c.loop-k.above.items v c.loop-k.k c.over-upper.result) c.parent_of.ensures (rw c.deref.ensures.value at c.over-upper.ensures)) c.earlier.ensures),
    )
