use Rattle.mm_explore.proofs.laws.outcomes_are_of_sets.Goals as goal
use Rattle.mm_explore.proofs.SetOutcomes as law

pub returns : goal.returns
returns c = law.outcomes_are_of_sets
