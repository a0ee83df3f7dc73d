use Rattle.mm_checkpoint.proofs.GoesOn.{goes_on}
use Rattle.mm_checkpoint.proofs.laws.restored_runs_go_on.Goals as goal

pub returns : goal.returns
returns c = goes_on
