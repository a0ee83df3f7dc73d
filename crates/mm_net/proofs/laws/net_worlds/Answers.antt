use Rattle.mm_net.proofs.TwoNets.{net_worlds}
use Rattle.mm_net.proofs.laws.net_worlds.Goals as goal

pub returns : goal.returns
returns c = net_worlds
