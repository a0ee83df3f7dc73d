use Rattle.std.proofs.{Common.arith, lemmas.Grind.common_steps}
use Rattle.mm_image.proofs.writing.put_slots.Goals as goal

pub loop-slot-preserved : goal.loop-slot-preserved
loop-slot-preserved c = grind (arith, common_steps)

pub returns : goal.returns
returns c = grind (arith, common_steps)
