use Rattle.mm_text.proofs.Appending.{appends_then}
use Rattle.mm_explore.proofs.text.put_repeat.Goals as goal

pub returns : goal.returns
returns g c = appends_then c.put.ensures c.put_count.ensures
