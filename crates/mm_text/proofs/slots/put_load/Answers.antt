use Rattle.mm_text.proofs.Appending.{appends_then}
use Rattle.mm_text.proofs.slots.put_load.Goals as goal

pub returns : goal.returns
returns g c = appends_then (appends_then c.put_number.ensures c.put_word.ensures) c.put_piece.ensures
