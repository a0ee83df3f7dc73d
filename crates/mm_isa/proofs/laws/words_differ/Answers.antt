use Rattle.mm_isa.proofs.Spelling.{spelling-injective}
use Rattle.mm_isa.proofs.laws.words_differ.Goals as goal

pub returns : goal.returns
returns c = spelling-injective
