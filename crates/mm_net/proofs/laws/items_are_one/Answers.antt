use Rattle.mm_net.proofs.GroupItems.{one_list}
use Rattle.mm_net.proofs.laws.items_are_one.Goals as goal

pub returns : goal.returns
returns c = one_list
