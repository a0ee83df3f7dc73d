use Rattle.std.proofs.{Common.arith, lemmas.Grind.common_steps}
use Rattle.mm_checkpoint.proofs.writing.put_pages.Goals as goal

pub loop-page-preserved : goal.loop-page-preserved
loop-page-preserved c = grind (arith, common_steps)
