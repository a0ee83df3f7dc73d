use Rattle.mm_debug.proofs.StepCounts.{steps_issue}
use Rattle.mm_debug.proofs.laws.steps_issue_cycles.Goals as goal

pub returns : goal.returns
returns c = steps_issue
