use Rattle.mm_debug.proofs.FirstStops.{runs_stop_first}
use Rattle.mm_debug.proofs.laws.runs_stop_first.Goals as goal

pub returns : goal.returns
returns c = runs_stop_first
