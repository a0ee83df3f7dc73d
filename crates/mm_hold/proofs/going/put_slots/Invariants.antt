use Rattle.std.{proofs.Common.{◌≡◌, ◌++◌, take}, specs.List.flat_map}
use Rattle.mm_hold.specs.Deeds.{slot_deeds}
use Rattle.mm_hold.proofs.going.put_slots.Given as goal

abbrev pub invariant-loop-slot : goal.invariant-loop-slot
invariant-loop-slot l = l.deeds.items ≡ l.initial.deeds.items ++ flat_map (slot_deeds l.kernel.image l.kernel.kept) (take l.slot-index l.slots)
