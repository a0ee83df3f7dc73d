use Rattle.mm_text.proofs.Appending.{appends_then}
use Rattle.mm_explore.specs.Texts.{by_line}
use Rattle.mm_explore.proofs.text.put_by.Goals as goal

pub returns : goal.returns
unfolding by_line
returns g c = appends_then (appends_then c.put.ensures c.put_repeats.ensures) c.put-2.ensures
