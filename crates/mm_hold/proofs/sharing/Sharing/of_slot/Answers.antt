use Rattle.mm_hold.proofs.PartySets.{slot_row}
use Rattle.mm_hold.proofs.sharing.Sharing.of_slot.Goals as goal

pub returns : goal.returns
returns c = slot_row c.args.self.now c.args.number
