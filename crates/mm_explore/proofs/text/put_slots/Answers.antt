use Rattle.mm_text.proofs.Appending.{appends_more}
use Rattle.mm_explore.specs.declared.explored.Standing.TheVariants.{Busy}
use Rattle.mm_explore.specs.Results.{slot_found_line}
use Rattle.mm_explore.proofs.text.put_slots.Goals as goal

pub loop-slot-preserved : goal.loop-slot-preserved
loop-slot-preserved g c = appends_more slot_found_line c.args.slots.now c.loop-slot.slot-index (0, Busy) c.loop-slot-test.true c.loop-slot.invariant c.put_slot_line.ensures
