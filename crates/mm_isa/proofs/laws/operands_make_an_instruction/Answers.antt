use Rattle.mm_isa.proofs.Assembled.{assembled}
use Rattle.mm_isa.proofs.laws.operands_make_an_instruction.Goals as goal

pub returns : goal.returns
returns c = assembled
