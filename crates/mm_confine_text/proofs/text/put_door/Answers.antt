use Rattle.mm_text.proofs.Appending.{appends_then}
use Rattle.mm_confine_text.proofs.text.put_door.Goals as goal

pub returns : goal.returns
returns g c = appends_then (appends_then c.put.ensures c.put_word.ensures) c.put-2.ensures
