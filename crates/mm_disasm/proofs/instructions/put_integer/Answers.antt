use Rattle.std.proofs.Common.{Option, ap, ◌∙◌}
use Rattle.mm_isa.specs.{declared.instr.Instr.Instr, Table.Operation}
use Rattle.mm_text.proofs.Appending.{appends_same}
use Rattle.mm_disasm.specs.Canonical.{operation_text, bits_text, integer_text}
use Rattle.mm_disasm.proofs.instructions.put_integer.Goals as goal

pub returns-in-Some : goal.returns-in-Some
unfolding integer_text
returns-in-Some g c =
    appends_same c.put_operation.ensures
    (ap (λ (o : Operation). operation_text o) c.operation.ensures ∙ ap (λ (i : Option Instr). bits_text i c.args.bits) c.in-Some.ensures.value)

pub returns-in-None : goal.returns-in-None
unfolding integer_text
returns-in-None g c = appends_same c.put.ensures (ap (λ (i : Option Instr). bits_text i c.args.bits) c.in-None.ensures.value)
