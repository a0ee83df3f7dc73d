use Rattle.std.proofs.Common.{rules}
use Rattle.mm_model.specs.Lines.{slot_lines}
use Rattle.mm_text.proofs.Appending.{appends_then}
use Rattle.mm_text.proofs.slots.put_slot.Goals as goal

pub returns : goal.returns
unfolding slot_lines
returns g c = search (rules, appends_then (appends_then c.put_slot_line.ensures c.put_registers.ensures) c.put_pending.ensures)
