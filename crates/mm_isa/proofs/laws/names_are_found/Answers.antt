use Rattle.mm_isa.proofs.Forms.{operation_named-name}
use Rattle.mm_isa.proofs.laws.names_are_found.Goals as goal

pub returns : goal.returns
returns c = operation_named-name
