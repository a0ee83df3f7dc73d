use Rattle.std.proofs.{Common.arith, lemmas.Grind.elements}
use Rattle.mm_thread.proofs.run_mask.runners_of.Goals as goal

pub loop-row-preserved : goal.loop-row-preserved
loop-row-preserved c = grind (arith, elements)
