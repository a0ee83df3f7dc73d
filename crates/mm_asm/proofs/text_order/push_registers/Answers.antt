use Rattle.std.proofs.{Common.arith, lemmas.Grind.common_steps}
use Rattle.mm_asm.proofs.text_order.push_registers.Goals as goal

pub loop-register-preserved : goal.loop-register-preserved
loop-register-preserved c = grind (arith, common_steps)
