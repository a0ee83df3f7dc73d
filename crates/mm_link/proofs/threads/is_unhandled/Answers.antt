use Rattle.std.proofs.{Common.arith, lemmas.Grind.common_steps}
use Rattle.mm_link.proofs.threads.is_unhandled.Goals as goal

pub loop-object-preserved : goal.loop-object-preserved
loop-object-preserved c = grind (arith, common_steps)
