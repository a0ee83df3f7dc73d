use Rattle.std.{proofs.Common.{◌≡◌, take}, specs.List.flat_map}
use Rattle.mm_confine_text.specs.Found.{slot_if}
use Rattle.mm_confine_text.proofs.finding.kernel_slots.Given as goal

abbrev pub invariant-loop-slot : goal.invariant-loop-slot
invariant-loop-slot l = l.numbers.items ≡ flat_map (slot_if l.kept l.group) (take l.slot-index l.slots)
