use Rattle.mm_hold.proofs.PartySets.{across}
use Rattle.mm_hold.proofs.sharing.Sharing.share.Goals as goal

pub returns : goal.returns
returns c = across c.args.self.now _ c.args.from c.args.to c.share_bits.ensures c.share_bits-2.ensures c.share_bits-3.ensures c.share_bits-4.ensures
