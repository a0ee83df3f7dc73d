use Rattle.mm_isa.proofs.Forms.{forms-rows}
use Rattle.mm_isa.proofs.laws.rows_are_the_operations.Goals as goal

pub returns : goal.returns
returns c = forms-rows
