use Rattle.mm_hold.proofs.PartySets.{group_row}
use Rattle.mm_hold.proofs.sharing.Sharing.of_group.Goals as goal

pub returns : goal.returns
returns c = group_row c.args.self.now c.args.number
