use Rattle.std.proofs.Common.{◌≡◌, ◌∙◌, ◌≤◌, ◌<◌, ◌⊎◌, inl, inr, slice_index, ap, bit_or, arith}
use Rattle.mm_flow.specs.Edges.{right_at}
use Rattle.mm_flow.proofs.SharedMarks.{above_more, same_default, push_length}
use Rattle.mm_flow.proofs.sharing.marks_above.Goals.{then-up-k, else-up-k}
use Rattle.mm_flow.proofs.sharing.marks_above.Goals as goal

pub loop-k-preserved : goal.loop-k-preserved
loop-k-preserved c =
    let from : ((slice_index c.args.parents.now c.loop-k.k < c.loop-k.k)
    × (c.if-up-k.over ≡ slice_index c.loop-k.out.items (slice_index c.args.parents.now c.loop-k.k))) ⊎
    ((c.loop-k.k ≤ slice_index c.args.parents.now c.loop-k.k) × (c.if-up-k.over ≡ 0)) =
    elim c.if-up-k.branch [
      | then-up-k w ↦ inl (
        w.if-up-k.true,
        let lt = w.if-up-k.true in let e = c.loop-k.invariant.1
            in w.over-is ∙ w.index.ensures ∙ same_default c.loop-k.out.items (slice_index c.args.parents.now c.loop-k.k)
            w.index.result.now (omega arith),
      )
      | else-up-k w ↦ inr (w.if-up-k.false, w.over-is)
    ] in
    rw c.in_ok-push.ensures.items (
      above_more c.args.parents.now c.args.marks.now (right_at c.args.nodes.now c.args.right) c.loop-k.out.items
          c.loop-k.k _ c.if-up-k.over c.loop-k.invariant.0 c.loop-k.invariant.1
          (ap (λ v. bit_or v c.if-up-k.over) c.mark_if-own.ensures) from,
      push_length c.loop-k.out.items _ c.loop-k.k c.loop-k.invariant.1,
    )
