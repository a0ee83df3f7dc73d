use Rattle.std.proofs.{Common.arith, lemmas.Grind.common_steps}
use Rattle.mm_link.proofs.memory.push_items.Goals as goal

pub loop-word-preserved : goal.loop-word-preserved
loop-word-preserved c = grind (arith, common_steps)
