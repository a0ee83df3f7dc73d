use Rattle.mm_explore.proofs.laws.finals_are_closed.Goals as goal
use Rattle.mm_explore.proofs.ClosedSets as law

pub returns : goal.returns
returns c = law.finals_are_closed
