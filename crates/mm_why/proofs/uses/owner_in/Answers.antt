use Rattle.std.proofs.{Common.arith, lemmas.Grind.common_steps}
use Rattle.mm_why.proofs.uses.owner_in.Goals as goal

pub loop-group-preserved : goal.loop-group-preserved
loop-group-preserved c = grind (arith, common_steps)
