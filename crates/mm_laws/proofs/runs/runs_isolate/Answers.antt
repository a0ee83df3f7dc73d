use Rattle.mm_laws.proofs.WholeRuns.{runs_isolate}
use Rattle.mm_laws.proofs.runs.runs_isolate.Goals as goal

pub returns : goal.returns
returns c = runs_isolate
