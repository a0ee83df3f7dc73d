use Rattle.mm_text.proofs.Appending.{buffered_writes}
use Rattle.mm_text.proofs.slots.slot_lines.Goals as goal

pub returns : goal.returns
returns g c = buffered_writes c.new-text.ensures c.put_slot.ensures c.finish.ensures
