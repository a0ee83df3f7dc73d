use Rattle.mm_laws.proofs.TwoRuns.{worlds_go_on}
use Rattle.mm_laws.proofs.isolated.worlds_step.Goals as goal

pub returns : goal.returns
returns c = worlds_go_on
