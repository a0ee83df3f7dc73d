-- A number for each state of a slot.
use Rattle.std.specs.Prelude.{ℕ, ◌+◌, Some, None}
use Rattle.mm_word.specs.Cause.{number_of}
use Rattle.mm_model.specs.declared.slot.SlotState.{SlotState, TheVariants.{Running, Waiting, Taken, Halted}}

abbrev pub state_number : SlotState → ℕ
state_number Running = 0
state_number Waiting = 1
state_number Taken = 2
state_number (Halted None) = 3
state_number (Halted (Some c)) = 3 + number_of c
