use Rattle.mm_checkpoint.proofs.SpelledLaws.{are_one}
use Rattle.mm_checkpoint.proofs.laws.checkpoints_are_one.Goals as goal

pub returns : goal.returns
returns c = are_one
