use Rattle.std.proofs.Common.{◌<◌, ◌^◌, length, slice_index, arith}
use Rattle.mm_flow.proofs.SharedMarks.{shared_write, shared_keep}
use Rattle.mm_flow.proofs.sharing.propagate_shared.Goals.{then-new-old, else-new-old}
use Rattle.mm_flow.proofs.sharing.propagate_shared.Goals as goal

pub loop-k-preserved : goal.loop-k-preserved
loop-k-preserved c =
    let e = c.loop-k.invariant.0.len in
    let small : c.loop-k.k < length c.loop-k.marks = omega arith in
    let below : slice_index c.loop-k.marks c.loop-k.k < 2 ^ 64 = omega arith in
    elim c.if-new-old.branch [
      | then-new-old w ↦ (
        rw (w.marks-is, w.changed-is) (shared_write c.args.sharing.now c.args.marks.now c.loop-k.marks
            c.loop-k.changed c.loop-k.k c.shared_next-shared_now.result c.loop-k.invariant.0 small
            c.shared_next-shared_now.ensures w.if-new-old.true below),
        c.shared_next-shared_now.ensures,
      )
      | else-new-old w ↦ (
        rw (w.marks-is, w.changed-is) (shared_keep c.args.sharing.now c.args.marks.now c.loop-k.marks
            c.loop-k.changed c.loop-k.k c.shared_next-shared_now.result c.loop-k.invariant.0 small
            c.shared_next-shared_now.ensures w.if-new-old.false),
        c.shared_next-shared_now.ensures,
      )
    ]
