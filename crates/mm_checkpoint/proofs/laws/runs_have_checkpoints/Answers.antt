use Rattle.mm_checkpoint.proofs.RunCheckpoints.{runs_have_checkpoints}
use Rattle.mm_checkpoint.proofs.laws.runs_have_checkpoints.Goals as goal

pub returns : goal.returns
returns c = runs_have_checkpoints
