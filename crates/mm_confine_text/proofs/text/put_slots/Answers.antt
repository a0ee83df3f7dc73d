use Rattle.mm_text.proofs.Appending.{appends_more}
use Rattle.mm_confine_text.specs.Told.{slot_line}
use Rattle.mm_confine_text.proofs.text.put_slots.Goals as goal

pub loop-slot-preserved : goal.loop-slot-preserved
loop-slot-preserved g c =
    appends_more slot_line c.args.slots.now c.loop-slot.slot-index 0 c.loop-slot-test.true c.loop-slot.invariant c.put_number.ensures
