use Rattle.std.proofs.{Common.arith, lemmas.Grind.common_steps}
use Rattle.mm_hold.proofs.graph.entry_masks.Goals as goal

pub loop-key-preserved : goal.loop-key-preserved
loop-key-preserved c = grind (arith, common_steps)
