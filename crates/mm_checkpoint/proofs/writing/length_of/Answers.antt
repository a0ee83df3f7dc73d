use Rattle.std.proofs.{Common.arith, lemmas.Grind.common_steps}
use Rattle.mm_checkpoint.proofs.writing.length_of.Goals as goal

pub loop-output-preserved : goal.loop-output-preserved
loop-output-preserved c = grind (arith, common_steps)
