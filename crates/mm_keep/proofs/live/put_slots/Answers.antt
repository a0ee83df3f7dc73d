use Rattle.std.proofs.{Common.arith, lemmas.Grind.common_steps}
use Rattle.mm_keep.proofs.live.put_slots.Goals as goal

pub loop-slot-preserved : goal.loop-slot-preserved
loop-slot-preserved c = grind (arith, common_steps)
