use Rattle.std.proofs.Common.{refl}
use Rattle.mm_hold.proofs.PartySets.{none_shares}
use Rattle.mm_hold.proofs.sharing.Sharing.none.Goals as goal

pub returns : goal.returns
returns c = none_shares _ refl refl refl refl
