use Rattle.std.proofs.Common.{◌∙◌, sym}
use Rattle.mm_text.proofs.Appending.{appends_then, appends_same}
use Rattle.mm_sweep.{specs.HolderTexts.holder_text, proofs.HolderLines.whole_line}
use Rattle.mm_sweep.proofs.holding.put_holder.Goals as goal

pub returns-then-meets_word : goal.returns-then-meets_word
returns-then-meets_word g c =
    appends_same (appends_then (appends_then (appends_then c.put_holder_text.ensures c.put_piece.ensures) c.put_word.ensures) c.put_piece-then-meets_word.ensures)
    (whole_line c.args.range.now (holder_text c.args.holder) c.args.word (sym c.meets_word.ensures ∙ c.if-meets_word.true))
