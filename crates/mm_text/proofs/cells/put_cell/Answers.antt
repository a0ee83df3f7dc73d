use Rattle.std.proofs.Common.{codes, sym, append_assoc, ◌++◌}
use Rattle.mm_model.specs.{Digits.hex, Lines.{word_text, full_text, newline}}
use Rattle.mm_text.proofs.Appending.{appends_then, appends_same}
use Rattle.mm_text.proofs.cells.put_cell.Goals as goal

pub returns : goal.returns
returns g c = appends_same (appends_then (appends_then c.put.ensures c.put_word.ensures) c.put_bit.ensures)
    (sym (append_assoc (codes "cell " ++ hex 14 c.args.word ++ codes " " ++ word_text c.args.cell.now.word) (full_text c.args.cell.now.full) newline))
