use Rattle.std.proofs.{Common.arith, lemmas.Grind.common_steps}
use Rattle.mm_graph.proofs.placed.keys_in.Goals as goal

pub loop-p-preserved : goal.loop-p-preserved
loop-p-preserved c = grind (arith, common_steps)
