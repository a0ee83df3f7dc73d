use Rattle.mm_checkpoint.proofs.RobinOn.{goes_on}
use Rattle.mm_checkpoint.proofs.laws.round_robin_goes_on.Goals as goal

pub returns : goal.returns
returns c = goes_on
