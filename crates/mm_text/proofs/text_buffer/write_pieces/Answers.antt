use Rattle.mm_text.proofs.Appending.{buffered_writes}
use Rattle.mm_text.proofs.text_buffer.write_pieces.Goals as goal

pub returns : goal.returns
returns g c = buffered_writes c.new-text.ensures c.put.ensures c.finish.ensures
