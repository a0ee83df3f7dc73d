use Rattle.std.proofs.Common.{rules}
use Rattle.mm_text.proofs.{Appending.{appends_then, appends_same}, RegisterLines.some_line}
use Rattle.mm_text.proofs.slots.put_register_word.Goals as goal

pub returns-then-not-is_zero : goal.returns-then-not-is_zero
returns-then-not-is_zero g c =
    appends_same (appends_then (appends_then c.put_number.ensures c.put_word.ensures) c.put_piece.ensures)
    (some_line c.args.number c.args.word (search rules))
