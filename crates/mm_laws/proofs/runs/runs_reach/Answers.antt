use Rattle.mm_laws.proofs.WholeRuns.{runs_reach}
use Rattle.mm_laws.proofs.runs.runs_reach.Goals as goal

pub returns : goal.returns
returns c = runs_reach
