use Rattle.std.proofs.Common.{◌≡◌, fold, take}
use Rattle.mm_isa.proofs.table.row.Given as goal

abbrev pub invariant-loop-operand : goal.invariant-loop-operand
invariant-loop-operand g l = l.begun ≡ fold g.V.Visitor.given (g.V.Visitor.begun l.fn.visitor l.name l.code) (take l.operand-index l.operand-items)
