use Rattle.mm_isa.proofs.Forms.{instr_from_operands}
use Rattle.mm_isa.proofs.laws.operands_determine_the_instruction.Goals as goal

pub returns : goal.returns
returns c = instr_from_operands
