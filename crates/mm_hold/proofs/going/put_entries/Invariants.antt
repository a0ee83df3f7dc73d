use Rattle.std.{proofs.Common.{◌≡◌, ◌++◌, take}, specs.List.flat_map}
use Rattle.mm_hold.specs.Deeds.{entry_deeds}
use Rattle.mm_hold.proofs.going.put_entries.Given as goal

abbrev pub invariant-loop-slot : goal.invariant-loop-slot
invariant-loop-slot l = l.deeds.items ≡ l.initial.deeds.items ++ flat_map (entry_deeds l.kernel.image l.kernel.kept l.door l.ip) (take l.slot-index l.slots)
