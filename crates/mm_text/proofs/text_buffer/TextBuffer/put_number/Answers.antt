use Rattle.mm_text.proofs.Appending.{appends_then}
use Rattle.mm_text.proofs.text_buffer.TextBuffer.put_number.Goals as goal

pub returns : goal.returns
returns g c = appends_then (appends_then c.put_piece.ensures c.put_piece-2.ensures) c.put_piece-3.ensures
