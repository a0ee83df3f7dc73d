use Rattle.std.{proofs.Common.{◌≡◌, ◌++◌, take}, specs.List.flat_map}
use Rattle.mm_model.specs.Slot.{Slot}
use Rattle.mm_hold.specs.Handlers.{served_by_caller}
use Rattle.mm_hold.proofs.handlers.add_slots.Given as goal

abbrev pub invariant-loop-s : goal.invariant-loop-s
invariant-loop-s l =
    l.served.items ≡ l.initial.served.items ++ flat_map (λ (s : Slot). flat_map (served_by_caller l.kernel.image l.kernel.kept s) l.slots) (take l.s-index l.slots)
