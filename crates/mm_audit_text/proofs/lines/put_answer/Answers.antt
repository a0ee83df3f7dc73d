use Rattle.mm_text.proofs.Appending.{appends_then}
use Rattle.mm_audit_text.proofs.lines.put_answer.Goals as goal

pub returns : goal.returns
returns g c = appends_then (appends_then (appends_then (appends_then c.put.ensures c.put_numbers.ensures) c.put-2.ensures) c.put_verdict.ensures) c.put-3.ensures
