use Rattle.mm_text.proofs.Appending.{appends_same}
use Rattle.mm_log.proofs.ToldRuns.{logs}
use Rattle.mm_log.proofs.logged.issue_logged.Goals as goal

pub returns-clause-lines : goal.returns-clause-lines
returns-clause-lines g c = appends_same c.issue_told.ensures.lines (logs _ _)
