-- A mask that shows which slots run.
use Rattle.std.specs.{Prelude.{◌≡◌, ◌↔◌, ℕ, Bool, true, false, Option, Some, None}, Int.bit_at}
use Rattle.mm_model.specs.{Slot.Slot, State.{Core, slot_at}, Turn.is_running}

abbrev pub runs : Option Slot → Bool
runs None = false
runs (Some s) = is_running s.state

-- the slot of a number is there and runs
abbrev pub slot_runs : Core → ℕ → Bool
slot_runs core n = runs (slot_at core n)

-- bit n of the mask is set exactly if slot n runs
pub record Shows (core : Core) (mask : ℕ) : Type 0 where
  pub each : (n : ℕ) → (bit_at mask n ≡ 1) ↔ (slot_runs core n ≡ true)
