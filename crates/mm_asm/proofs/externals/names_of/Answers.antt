use Rattle.std.proofs.{Common.arith, lemmas.Grind.common_steps}
use Rattle.mm_asm.proofs.externals.names_of.Goals as goal

pub loop-name-preserved : goal.loop-name-preserved
loop-name-preserved c = grind (arith, common_steps)
