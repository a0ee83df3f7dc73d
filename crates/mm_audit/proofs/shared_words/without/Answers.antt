use Rattle.mm_audit.proofs.Bits.{fresh_bit}
use Rattle.mm_audit.proofs.shared_words.without.Goals as goal

pub returns : goal.returns
returns c g lt = fresh_bit c.args.groups c.args.others g c.ranges.others.fits lt
