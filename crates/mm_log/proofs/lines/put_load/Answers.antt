use Rattle.mm_log.specs.Lines.{line_text}
use Rattle.mm_text.proofs.Appending.{appends_then}
use Rattle.mm_log.proofs.lines.put_load.Goals as goal

pub returns : goal.returns
unfolding line_text
returns g c = appends_then (appends_then c.put.ensures c.put_word.ensures) c.put_piece.ensures
