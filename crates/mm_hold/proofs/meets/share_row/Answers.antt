use Rattle.mm_hold.proofs.Meeting.{row_is}
use Rattle.mm_hold.proofs.meets.share_row.Goals as goal

pub returns : goal.returns
returns c =
    row_is c.args.meets.now c.args.senders c.args.n c.mask_of-mask.result c.requires c.mask_of-mask.ensures c.of_group.result c.of_slot.result c.of_group.ensures c.of_slot.ensures
    c.args.sharing.now c.share.new.self c.share-2.new.self c.share.ensures c.share-2.ensures
