use Rattle.std.{proofs.Common.{◌≡◌, ◌++◌, take}, specs.List.flat_map}
use Rattle.mm_keep_text.specs.Used.{slot_origins}
use Rattle.mm_keep_text.proofs.finding.put_slots.Given as goal

abbrev pub invariant-loop-slot : goal.invariant-loop-slot
invariant-loop-slot l = l.origins.items ≡ l.fn.origins.items ++ flat_map (slot_origins l.kernel.kept) (take l.slot-index l.slots)
