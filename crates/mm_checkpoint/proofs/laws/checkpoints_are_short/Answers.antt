use Rattle.mm_checkpoint.proofs.CheckpointBytes.{checkpoints_are_short}
use Rattle.mm_checkpoint.proofs.laws.checkpoints_are_short.Goals as goal

pub returns : goal.returns
returns c = checkpoints_are_short
