use Rattle.mm_why.proofs.Granting.{derivations_grant}
use Rattle.mm_why.proofs.laws.derivations_grant.Goals as goal

pub returns : goal.returns
returns c = derivations_grant
