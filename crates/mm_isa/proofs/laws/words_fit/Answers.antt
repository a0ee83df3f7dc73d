use Rattle.mm_isa.proofs.Spelling.{spelling-fits}
use Rattle.mm_isa.proofs.laws.words_fit.Goals as goal

pub returns : goal.returns
returns c = spelling-fits
