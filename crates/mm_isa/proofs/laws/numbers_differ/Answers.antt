use Rattle.mm_isa.proofs.Forms.{numbers_apart}
use Rattle.mm_isa.proofs.laws.numbers_differ.Goals as goal

pub returns : goal.returns
returns c = numbers_apart
