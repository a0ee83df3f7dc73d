use Rattle.std.proofs.{Common.arith, lemmas.Grind.common_steps}
use Rattle.mm_why.proofs.reasons.met_by.Goals as goal

pub loop-by-preserved : goal.loop-by-preserved
loop-by-preserved c = grind (arith, common_steps)
