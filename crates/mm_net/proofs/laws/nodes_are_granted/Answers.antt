use Rattle.mm_net.proofs.Granted.{nodes_granted}
use Rattle.mm_net.proofs.laws.nodes_are_granted.Goals as goal

pub returns : goal.returns
returns c = nodes_granted
