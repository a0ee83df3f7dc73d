use Rattle.std.proofs.Common.{codes, decimal}
use Rattle.mm_text.proofs.Appending.{appends_then}
use Rattle.mm_why.{specs.Text.number_text, proofs.Texts.appends_words}
use Rattle.mm_why.proofs.text.put_line.Goals as goal

pub returns : goal.returns
returns g c =
    let front = appends_words (number_text c.args.k) (codes " group ") (decimal c.args.line.group) (codes " ") c.put_number.ensures c.put.ensures in
    appends_then (appends_then (appends_then (appends_then front c.put_word.ensures) c.put_piece.ensures) c.put_rule.ensures) c.put_piece-2.ensures
