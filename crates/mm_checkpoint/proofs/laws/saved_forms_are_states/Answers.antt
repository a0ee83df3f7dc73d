use Rattle.mm_checkpoint.proofs.Made.{same_states}
use Rattle.mm_checkpoint.proofs.laws.saved_forms_are_states.Goals as goal

pub returns : goal.returns
returns c = same_states
