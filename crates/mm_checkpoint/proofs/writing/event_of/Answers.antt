use Rattle.std.proofs.{Common.arith, lemmas.Grind.common_steps}
use Rattle.mm_checkpoint.proofs.writing.event_of.Goals as goal

pub loop-queue-preserved : goal.loop-queue-preserved
loop-queue-preserved c = grind (arith, common_steps)
