use Rattle.mm_isa.proofs.Spelling.{fields_in-spelling}
use Rattle.mm_isa.proofs.laws.fields_stand_at_their_bits.Goals as goal

pub returns : goal.returns
returns c = fields_in-spelling
