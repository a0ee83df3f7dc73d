use Rattle.std.proofs.{Common.arith, lemmas.Grind.common_steps}
use Rattle.mm_graph.proofs.found.found_in.Goals as goal

pub loop-page-preserved : goal.loop-page-preserved
loop-page-preserved c = grind (arith, common_steps)
