use Rattle.mm_text.proofs.{Appending.appends_same, RegisterLines.empty_line}
use Rattle.mm_text.proofs.slots.put_register.Goals as goal

pub returns-then-is_empty : goal.returns-then-is_empty
returns-then-is_empty g c = appends_same c.put_number.ensures (empty_line c.args.slot.now c.args.number cc)
