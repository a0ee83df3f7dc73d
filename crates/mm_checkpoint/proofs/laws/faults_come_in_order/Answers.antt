use Rattle.mm_checkpoint.proofs.FileOrder.{come_in_order}
use Rattle.mm_checkpoint.proofs.laws.faults_come_in_order.Goals as goal

pub returns : goal.returns
returns c = come_in_order
