use Rattle.mm_top.proofs.SavedRuns.{goes_on}
use Rattle.mm_top.proofs.laws.saves_go_on.Goals as goal

pub returns : goal.returns
returns c = goes_on
