use Rattle.mm_hold.proofs.PartySets.{none_is}
use Rattle.mm_hold.proofs.parties.Parties.none.Goals as goal

pub returns : goal.returns
returns c = none_is
