use Rattle.mm_net.proofs.Acting.{act_exactly}
use Rattle.mm_net.proofs.laws.links_act_exactly.Goals as goal

pub returns : goal.returns
returns c = act_exactly
