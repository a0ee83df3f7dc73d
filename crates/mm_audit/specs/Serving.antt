-- Slots and the groups of their handlers.
use Rattle.std.specs.{Prelude.{if◌then◌else◌, List, [], ◌∷◌}, List.flat_map}
use Rattle.mm_model.specs.{Slot.Slot, Turn.is_handler}
use Rattle.mm_audit.specs.declared.handlers.Served.{Served}

-- the slot `s` with its group and that of `t`, if `t` is its handler
abbrev pub served_by : Slot → Slot → List Served
served_by s t =
    if is_handler t.number s.handler then record { slot = s.number; group = s.group; by = t.group } ∷ [] else []

-- the slots with their groups and those of their handlers
abbrev pub served_of : List Slot → List Served
served_of slots = flat_map (λ s. flat_map (served_by s) slots) slots
