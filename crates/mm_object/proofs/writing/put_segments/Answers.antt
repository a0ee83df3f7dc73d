use Rattle.std.proofs.{Common.arith, lemmas.Grind.common_steps}
use Rattle.mm_object.proofs.writing.put_segments.Goals as goal

pub loop-segment-preserved : goal.loop-segment-preserved
loop-segment-preserved c = grind (arith, common_steps)
