use Rattle.std.proofs.Common.{◌<◌, length, arith}
use Rattle.mm_flow.proofs.{Bits.{bit_set, bit_clear}, SharedMarks.{edges_more, edges_skip}}
use Rattle.mm_flow.proofs.sharing.share.Goals.{then-from-h-eq1, else-from-h-eq1}
use Rattle.mm_flow.proofs.sharing.share.Goals as goal

pub loop-h-preserved : goal.loop-h-preserved
loop-h-preserved c =
    let e = c.loop-h.invariant.len in
    let r = c.requires in
    let small : c.loop-h.h < length c.loop-h.sharing = omega arith in
    elim c.if-from-h-eq1.branch [
      | then-from-h-eq1 w ↦ rw w.sharing-is (edges_more c.args.sharing.now c.loop-h.sharing c.args.from c.args.to c.loop-h.h c.loop-h.invariant small (bit_set _ _ w.if-from-h-eq1.true))
      | else-from-h-eq1 w ↦ rw w.sharing-is (edges_skip c.args.sharing.now c.loop-h.sharing c.args.from c.args.to c.loop-h.h c.loop-h.invariant (bit_clear _ _ w.if-from-h-eq1.false))
    ]
