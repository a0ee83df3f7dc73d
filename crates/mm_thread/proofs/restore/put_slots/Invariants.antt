use Rattle.std.proofs.Common.{◌≡◌, ◌++◌, map, take, drop}
use Rattle.mm_thread.specs.SlotIndices.{row_alone}
use Rattle.mm_thread.proofs.restore.put_slots.Given as goal

abbrev pub invariant-loop-i : goal.invariant-loop-i
invariant-loop-i l = l.tables ≡ record l.initial.tables { rows = map row_alone (take l.i l.slots) ++ drop l.i l.initial.tables.rows }
