use Rattle.mm_text.proofs.Appending.{appends_then}
use Rattle.mm_disasm.specs.Canonical.{word_line}
use Rattle.mm_disasm.proofs.words.put_word.Goals as goal

pub returns : goal.returns
unfolding word_line
returns g c = appends_then (appends_then c.put_mark.ensures c.put_content.ensures) c.put_piece.ensures
