use Rattle.mm_save.proofs.RecalledStands.{going_back_changes_no_run}
use Rattle.mm_save.proofs.laws.going_back_changes_no_run.Goals as goal

pub returns : goal.returns
returns c = going_back_changes_no_run
