use Rattle.mm_laws.proofs.SameViews.{same_worlds}
use Rattle.mm_laws.proofs.isolated.two_worlds.Goals as goal

pub returns : goal.returns
returns c = same_worlds
