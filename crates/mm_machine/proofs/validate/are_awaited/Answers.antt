use Rattle.std.proofs.{Common.arith, lemmas.Grind.common_steps}
use Rattle.mm_machine.proofs.validate.are_awaited.Goals as goal

pub loop-queue-preserved : goal.loop-queue-preserved
loop-queue-preserved c = grind (arith, common_steps)
