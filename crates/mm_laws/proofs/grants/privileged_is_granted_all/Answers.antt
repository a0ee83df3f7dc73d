use Rattle.mm_laws.proofs.GrantLaws.{granted_all}
use Rattle.mm_laws.proofs.grants.privileged_is_granted_all.Goals as goal

pub returns : goal.returns
returns c = granted_all
