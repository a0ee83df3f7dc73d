-- Slots and handlers, by the mask of the numbers of the slots inside.
use Rattle.std.specs.Prelude.{ℕ, ◌/◌, ◌^◌, Bool, false, ◌==◌, ◌&&◌, if◌then◌else◌, bit_and, List, [], ◌∷◌, Option, Some}
use Rattle.std.specs.Prelude.{None}
use Rattle.mm_model.specs.Slot.{Slot}

-- a handler is not one of these numbers
abbrev pub is_out : ℕ → Option ℕ → Bool
is_out inside None = false
is_out inside (Some h) = bit_and (inside / 2 ^ h) 1 == 0

-- a slot is one of these numbers, and its handler is not
abbrev pub leaves : ℕ → Slot → Bool
leaves inside s = (bit_and (inside / 2 ^ s.number) 1 == 1) && is_out inside s.handler

-- the number of the first slot that is one of these numbers and whose handler is not
abbrev pub first_leaving : ℕ → List Slot → Option ℕ
first_leaving inside [] = None
first_leaving inside (s ∷ slots) = if leaves inside s then Some s.number else first_leaving inside slots
