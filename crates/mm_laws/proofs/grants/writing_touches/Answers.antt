use Rattle.mm_laws.proofs.GrantLaws.{writing_touches}
use Rattle.mm_laws.proofs.grants.writing_touches.Goals as goal

pub returns : goal.returns
returns c = writing_touches
