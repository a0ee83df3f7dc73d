use Rattle.std.proofs.Common.{◌≡◌, map, take}
use Rattle.mm_thread.specs.SlotIndices.{row_alone}
use Rattle.mm_thread.proofs.build.rows_of.Given as goal

abbrev pub invariant-loop-slot : goal.invariant-loop-slot
invariant-loop-slot l = l.rows.items ≡ map row_alone (take l.slot-index l.slots)
