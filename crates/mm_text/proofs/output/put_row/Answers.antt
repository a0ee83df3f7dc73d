use Rattle.mm_text.proofs.Appending.{appends_then}
use Rattle.mm_text.proofs.output.put_row.Goals as goal

pub returns : goal.returns
returns g c = appends_then (appends_then c.put.ensures c.put_row_bytes.ensures) c.put-2.ensures
