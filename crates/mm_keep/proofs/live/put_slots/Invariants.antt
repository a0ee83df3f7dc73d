use Rattle.std.{proofs.Common.{◌≡◌, ◌++◌, take}, specs.List.{filter, flat_map}}
use Rattle.mm_model.specs.{Slot.Slot, Turn.is_running}
use Rattle.mm_kernel.specs.Segments.{slot_pointers}
use Rattle.mm_keep.proofs.live.put_slots.Given as goal

abbrev pub invariant-loop-slot : goal.invariant-loop-slot
invariant-loop-slot l =
    l.out.items ≡ l.initial.out.items ++ flat_map slot_pointers (filter (λ (s : Slot). is_running s.state) (take l.slot-index l.slots))
