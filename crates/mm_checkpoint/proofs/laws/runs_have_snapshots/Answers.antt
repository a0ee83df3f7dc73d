use Rattle.mm_checkpoint.proofs.RunCheckpoints.{runs_have_snapshots}
use Rattle.mm_checkpoint.proofs.laws.runs_have_snapshots.Goals as goal

pub returns : goal.returns
returns c = runs_have_snapshots
