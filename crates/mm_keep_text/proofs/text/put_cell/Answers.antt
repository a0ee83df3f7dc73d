use Rattle.mm_text.proofs.Appending.{appends_then}
use Rattle.mm_keep_text.proofs.text.put_cell.Goals as goal

pub returns : goal.returns
returns g c = appends_then c.put_word_form.ensures c.put.ensures
