use Rattle.mm_isa.proofs.Spelling.{instr_of-exact}
use Rattle.mm_isa.proofs.laws.words_are_read_exactly.Goals as goal

pub returns : goal.returns
returns c = instr_of-exact
