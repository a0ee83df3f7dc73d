use Rattle.std.proofs.Common.{◌≡◌, map, take}
use Rattle.mm_sweep.specs.Swept.{swept_slot}
use Rattle.mm_sweep.proofs.words.swept_slots.Given as goal

abbrev pub invariant-loop-slot : goal.invariant-loop-slot
invariant-loop-slot l = l.swept.items ≡ map (swept_slot l.range) (take l.slot-index l.slots)
