use Rattle.std.proofs.{Common.arith, lemmas.Grind.common_steps}
use Rattle.mm_checkpoint.proofs.writing.put_pending.Goals as goal

pub loop-load-preserved : goal.loop-load-preserved
loop-load-preserved c = grind (arith, common_steps)
