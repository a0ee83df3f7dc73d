use Rattle.mm_explore.proofs.laws.runs_are_found.Goals as goal
use Rattle.mm_explore.proofs.RunsFound as law

pub returns : goal.returns
returns c = law.runs_are_found
