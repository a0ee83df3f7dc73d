use Rattle.mm_laws.proofs.Robins.{short, ends, issues_next}
use Rattle.mm_laws.proofs.schedules.round_robin_is_exact.Goals as goal

pub returns-clause-short : goal.returns-clause-short
returns-clause-short c = short

pub returns-clause-ends : goal.returns-clause-ends
returns-clause-ends c = ends

pub returns-clause-next : goal.returns-clause-next
returns-clause-next c = issues_next
