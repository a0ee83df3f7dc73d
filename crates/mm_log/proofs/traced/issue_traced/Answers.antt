use Rattle.mm_text.proofs.Appending.{appends_same}
use Rattle.mm_log.proofs.ToldRuns.{traces}
use Rattle.mm_log.proofs.traced.issue_traced.Goals as goal

pub returns-clause-lines : goal.returns-clause-lines
returns-clause-lines g c = appends_same c.issue_told.ensures.lines (traces _ _)
