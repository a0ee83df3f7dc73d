use Rattle.std.proofs.{Common.arith, lemmas.Grind.common_steps}
use Rattle.mm_graph.proofs.keys.add_found.Goals as goal

pub loop-f-preserved : goal.loop-f-preserved
loop-f-preserved c = grind (arith, common_steps)
