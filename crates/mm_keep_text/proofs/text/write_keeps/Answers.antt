use Rattle.mm_text.proofs.Appending.{buffered_writes}
use Rattle.mm_keep_text.proofs.text.write_keeps.Goals as goal

pub returns : goal.returns
returns g c = buffered_writes c.new-text.ensures c.put_keeps.ensures c.finish.ensures
