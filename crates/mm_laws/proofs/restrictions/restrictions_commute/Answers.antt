use Rattle.mm_laws.proofs.Restricting.{commute}
use Rattle.mm_laws.proofs.restrictions.restrictions_commute.Goals as goal

pub returns : goal.returns
returns c = commute
