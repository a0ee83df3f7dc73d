use Rattle.mm_asm.proofs.InOrder.{targets_stand_in_order}
use Rattle.mm_asm.proofs.laws.targets_stand_in_order.Goals as goal

pub returns : goal.returns
returns c = targets_stand_in_order
