use Rattle.mm_net.proofs.IntegersAlone.{links_carry}
use Rattle.mm_net.proofs.laws.links_carry_integers.Goals as goal

pub returns : goal.returns
returns c = links_carry
