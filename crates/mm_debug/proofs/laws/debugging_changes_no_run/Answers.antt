use Rattle.mm_debug.proofs.LinesStand.{debugging_changes_no_run}
use Rattle.mm_debug.proofs.laws.debugging_changes_no_run.Goals as goal

pub returns : goal.returns
returns c = debugging_changes_no_run
