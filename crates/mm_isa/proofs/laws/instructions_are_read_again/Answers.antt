use Rattle.mm_isa.proofs.Spelling.{instr_of-spelling}
use Rattle.mm_isa.proofs.laws.instructions_are_read_again.Goals as goal

pub returns : goal.returns
returns c = instr_of-spelling
