use Rattle.mm_hold.proofs.PartySets.{shared_is}
use Rattle.mm_hold.proofs.sharing.Sharing.shared_by.Goals as goal

pub returns : goal.returns
returns c =
    shared_is c.args.self.now c.args.from c.shared_bits-groups.result c.shared_bits-slots.result c.shared_bits-more_groups.result c.shared_bits-more_slots.result
    c.shared_bits-groups.ensures c.shared_bits-slots.ensures c.shared_bits-more_groups.ensures c.shared_bits-more_slots.ensures
