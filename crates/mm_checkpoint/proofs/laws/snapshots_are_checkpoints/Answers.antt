use Rattle.mm_checkpoint.proofs.Reached.{snapshots}
use Rattle.mm_checkpoint.proofs.laws.snapshots_are_checkpoints.Goals as goal

pub returns : goal.returns
returns c = snapshots
