use Rattle.mm_hold.proofs.PartySets.{edges_are}
use Rattle.mm_hold.proofs.sharing.share_bits.Goals as goal

pub returns : goal.returns
returns c = edges_are c.args.sharing.now c.share.new.sharing c.args.from c.args.to c.ranges.from.fits c.share.ensures
