use Rattle.std.proofs.{Common.arith, lemmas.Grind.common_steps}
use Rattle.mm_object.proofs.threads.are_threads.Goals as goal

pub loop-thread-preserved : goal.loop-thread-preserved
loop-thread-preserved c = grind (arith, common_steps)
