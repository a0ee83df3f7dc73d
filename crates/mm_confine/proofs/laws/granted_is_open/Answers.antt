use Rattle.mm_confine.proofs.Open.{granted_is_open}
use Rattle.mm_confine.proofs.laws.granted_is_open.Goals as goal

pub returns : goal.returns
returns c = granted_is_open
