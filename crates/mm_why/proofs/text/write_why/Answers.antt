use Rattle.mm_text.proofs.Appending.{buffered_writes}
use Rattle.mm_why.proofs.text.write_why.Goals as goal

pub returns : goal.returns
returns g c = buffered_writes c.new-text.ensures c.put_answer.ensures c.finish.ensures
