use Rattle.mm_text.proofs.Appending.{appends_then}
use Rattle.mm_keep_text.proofs.text.put_leak_line.Goals as goal

pub returns : goal.returns
returns g c = appends_then (appends_then c.put.ensures c.put_leak.ensures) c.put-2.ensures
