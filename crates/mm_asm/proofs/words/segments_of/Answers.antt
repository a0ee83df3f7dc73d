use Rattle.std.proofs.{Common.arith, lemmas.Grind.common_steps}
use Rattle.mm_asm.proofs.words.segments_of.Goals as goal

pub loop-said-preserved : goal.loop-said-preserved
loop-said-preserved c = grind (arith, common_steps)
