use Rattle.mm_net.proofs.Order.{run_in_order}
use Rattle.mm_net.proofs.laws.arrives_in_order.Goals as goal

pub returns : goal.returns
returns c = run_in_order
