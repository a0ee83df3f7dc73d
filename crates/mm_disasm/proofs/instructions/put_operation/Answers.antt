use Rattle.std.proofs.Common.{List, ◌++◌, ap, ◌∙◌}
use Rattle.mm_isa.specs.{declared.operand.Operand.Operand, Table.Operation}
use Rattle.mm_text.proofs.Appending.{appends_then, appends_same}
use Rattle.mm_disasm.specs.Canonical.{operands_text, operation_text}
use Rattle.mm_disasm.proofs.instructions.put_operation.Goals as goal

pub returns : goal.returns
unfolding operation_text
returns g c =
    let name = c.operation.inside.name.now in
    appends_same (appends_then c.put_piece.ensures c.put_operands.ensures)
    (ap (λ (operands : List Operand). name ++ operands_text operands) c.deref.ensures.0 ∙ ap (λ (o : Operation). o.name ++ operands_text o.operands) c.operation.view_is)
