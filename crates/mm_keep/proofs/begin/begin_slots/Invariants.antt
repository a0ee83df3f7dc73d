use Rattle.std.proofs.Common.{◌≡◌, ◌++◌, take}
use Rattle.std.specs.List.{flat_map}
use Rattle.mm_keep.specs.Claims.{AddsFacts}
use Rattle.mm_keep.specs.Searching.{handler_in, slot_facts}
use Rattle.mm_keep.proofs.begin.begin_slots.Given as goal

abbrev pub invariant-loop-slot : goal.invariant-loop-slot
invariant-loop-slot l = record {
  facts : AddsFacts l.kernel.image l.kernel.kept (flat_map (slot_facts l.kernel.image l.kernel.kept) (take l.slot-index l.slots)) l.initial.tables l.tables;
  handlers : l.handlers.items ≡ l.initial.handlers.items ++ flat_map (handler_in l.kernel.image l.kernel.kept) (take l.slot-index l.slots);
}
