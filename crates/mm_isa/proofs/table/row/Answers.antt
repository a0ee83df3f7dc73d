use Rattle.std.proofs.{Common.arith, lemmas.Grind.common_steps}
use Rattle.mm_isa.proofs.table.row.Goals as goal

pub loop-operand-preserved : goal.loop-operand-preserved
loop-operand-preserved g c = grind (arith, common_steps)
