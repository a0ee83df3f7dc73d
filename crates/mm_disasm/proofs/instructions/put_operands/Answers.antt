use Rattle.std.proofs.Common.{◌-◌, length, take, drop, arith}
use Rattle.mm_text.proofs.Appending.{appends_item, appends_then, appends_same}
use Rattle.mm_disasm.{specs.Canonical.further_text, proofs.Operands.all_operands}
use Rattle.mm_disasm.proofs.instructions.put_operands.Goals as goal

pub loop-operand-preserved : goal.loop-operand-preserved
loop-operand-preserved g c =
    appends_item further_text (take (length c.args.operands.now - 1) (drop 1 c.args.operands.now)) c.loop-operand.operand-index c.operand-item.result c.loop-operand-test.true
    c.operand-item.is c.loop-operand.invariant c.put_further.ensures

pub returns : goal.returns
returns g c =
    appends_same (appends_then (appends_then c.put_piece.ensures c.put_operand.ensures) c.loop-operand.invariant)
    (all_operands c.args.operands.now c.loop-operand.operand-index c.first-item.result c.in-len1-up.len_at_least c.first-item.is (omega (arith, c.loop-operand-test.false)))
