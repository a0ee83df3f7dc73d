-- Slots whose handlers are callers.
use Rattle.std.specs.Prelude.{ℕ, Bool, false, not, ◌&&◌, ◌==◌, if◌then◌else◌, List, [], ◌∷◌, Option, Some, None}
use Rattle.std.specs.List.{flat_map}
use Rattle.mm_model.specs.{Slot.Slot, Image.Image}
use Rattle.mm_kernel.specs.{Segments.Segment, Threads.is_kernel}
use Rattle.mm_audit.specs.declared.handlers.Served.{Served}

-- a handler is the slot of a number, and that is no slot of the kernel
abbrev pub is_by_caller : Image → List Segment → Option ℕ → ℕ → Bool
is_by_caller i kept (Some h) number = (h == number) && not (is_kernel i kept number)
is_by_caller i kept None number = false

-- a slot with the group of its handler
abbrev pub served_by_caller : Image → List Segment → Slot → Slot → List Served
served_by_caller i kept s t =
    if is_by_caller i kept s.handler t.number
    then record { slot = s.number; group = s.group; by = t.group } ∷ [] else []

abbrev pub served_by_callers : Image → List Segment → List Slot → List Served
served_by_callers i kept slots = flat_map (λ s. flat_map (served_by_caller i kept s) slots) slots
