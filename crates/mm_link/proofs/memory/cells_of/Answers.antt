use Rattle.std.proofs.{Common.arith, lemmas.Grind.common_steps}
use Rattle.mm_link.proofs.memory.cells_of.Goals as goal

pub loop-part-preserved : goal.loop-part-preserved
loop-part-preserved c = grind (arith, common_steps)
