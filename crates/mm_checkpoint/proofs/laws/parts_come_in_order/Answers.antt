use Rattle.mm_checkpoint.proofs.Spelled.{checkpoint_spelled}
use Rattle.mm_checkpoint.proofs.laws.parts_come_in_order.Goals as goal

pub returns : goal.returns
returns c = checkpoint_spelled
