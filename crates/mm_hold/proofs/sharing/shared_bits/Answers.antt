use Rattle.mm_hold.proofs.PartySets.{bits_are}
use Rattle.mm_hold.proofs.sharing.shared_bits.Goals as goal

pub returns : goal.returns
returns c = bits_are c.shared_by.result c.args.from c.args.sharing.now c.ranges.from.fits c.shared_by.ensures
