use Rattle.mm_isa.proofs.Forms.{names_apart}
use Rattle.mm_isa.proofs.laws.names_differ.Goals as goal

pub returns : goal.returns
returns c = names_apart
