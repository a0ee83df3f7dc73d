use Rattle.mm_log.specs.Lines.{line_text}
use Rattle.mm_text.proofs.Appending.{appends_then}
use Rattle.mm_log.proofs.lines.put_told.Goals as goal

pub returns : goal.returns
unfolding line_text
returns g c = appends_then (appends_then
    (appends_then (appends_then (appends_then c.put_fault.ensures c.put_word.ensures) c.put_piece.ensures)
    c.put_word-2.ensures) c.put_piece-2.ensures) c.put_word-3.ensures
