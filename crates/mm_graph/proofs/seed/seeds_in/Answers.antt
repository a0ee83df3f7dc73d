use Rattle.std.proofs.{Common.arith, lemmas.Grind.common_steps}
use Rattle.mm_graph.proofs.seed.seeds_in.Goals as goal

pub loop-slot-preserved : goal.loop-slot-preserved
loop-slot-preserved c = grind (arith, common_steps)
