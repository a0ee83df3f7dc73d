use Rattle.std.proofs.{Common.arith, lemmas.Grind.common_steps}
use Rattle.mm_asm.proofs.text_order.push_all.Goals as goal

pub loop-u-preserved : goal.loop-u-preserved
loop-u-preserved c = grind (arith, common_steps)
