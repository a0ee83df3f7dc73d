use Rattle.mm_text.proofs.Appending.{appends_then}
use Rattle.mm_explore.proofs.text.put_slot_line.Goals as goal

pub returns : goal.returns
returns g c = appends_then (appends_then c.put_number.ensures c.put_standing.ensures) c.put.ensures
