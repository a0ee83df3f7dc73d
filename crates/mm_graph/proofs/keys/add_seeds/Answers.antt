use Rattle.std.proofs.{Common.arith, lemmas.Grind.common_steps}
use Rattle.mm_graph.proofs.keys.add_seeds.Goals as goal

pub loop-s-preserved : goal.loop-s-preserved
loop-s-preserved c = grind (arith, common_steps)
