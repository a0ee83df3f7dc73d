use Rattle.mm_draft.proofs.Least.{first_is_least}
use Rattle.mm_draft.proofs.laws.the_first_fault_is_the_least.Goals as goal

pub returns : goal.returns
returns c = first_is_least
