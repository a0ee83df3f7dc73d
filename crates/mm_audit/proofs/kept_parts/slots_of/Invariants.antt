use Rattle.std.proofs.Common.{◌≡◌, take}
use Rattle.mm_model.specs.Groups.{among, own_slots}
use Rattle.mm_audit.proofs.kept_parts.slots_of.Given as goal

abbrev pub invariant-loop-slot : goal.invariant-loop-slot
invariant-loop-slot l = l.kept.items ≡ own_slots (among l.groups) (take l.slot-index l.slots)
