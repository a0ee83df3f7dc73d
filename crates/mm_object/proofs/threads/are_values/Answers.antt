use Rattle.std.proofs.{Common.arith, lemmas.Grind.common_steps}
use Rattle.mm_object.proofs.threads.are_values.Goals as goal

pub loop-value-preserved : goal.loop-value-preserved
loop-value-preserved c = grind (arith, common_steps)
