use Rattle.mm_flow.proofs.{Bits.{bit_set, bit_clear}, SharedMarks.{shared_more, shared_skip}}
use Rattle.mm_flow.proofs.sharing.shared_by.Goals.{then-mask-h-eq1, else-mask-h-eq1}
use Rattle.mm_flow.proofs.sharing.shared_by.Goals as goal

pub loop-h-preserved : goal.loop-h-preserved
loop-h-preserved c g =
    elim c.if-mask-h-eq1.branch [
      | then-mask-h-eq1 w ↦ rw w.all-is (shared_more c.args.mask c.loop-h.h c.loop-h.all g c.args.sharing.now (bit_set _ _ w.if-mask-h-eq1.true) (c.loop-h.invariant g))
      | else-mask-h-eq1 w ↦ rw w.all-is (shared_skip c.args.mask c.loop-h.h c.loop-h.all g c.args.sharing.now (bit_clear _ _ w.if-mask-h-eq1.false) (c.loop-h.invariant g))
    ]
