-- Why an image cannot be swept.
use Rattle.std.specs.Prelude.{◌≡◌, ℕ, ◌≤◌, true, Contains}
use Rattle.mm_model.specs.{Slot.Slot, Image.Image, Reach.{Privileged, Entries.All}}
use Rattle.mm_sweep.specs.{Swept.meets, declared.sweeping.SweepError.SweepError}
use Rattle.mm_sweep.specs.declared.sweeping.SweepError.TheVariants as errors

-- the slot of this number, also if it is halted, has an instruction pointer whose segment meets the range
pub record IsHeld (range : ℕ × ℕ) (i : Image) (n : ℕ) : Type 0 where
  pub slot : Slot
  pub stands : Contains i.slots slot
  pub number : slot.number ≡ n
  pub meets : meets range slot.ip ≡ true

-- the least slot whose instruction pointer's segment meets the range
pub record FirstHeld (range : ℕ × ℕ) (i : Image) (n : ℕ) : Type 0 where
  pub held : IsHeld range i n
  pub least : (m : ℕ) → IsHeld range i m → n ≤ m

-- no instruction pointer's segment meets the range
abbrev pub NoneHeld : ℕ × ℕ → Image → Type 0
NoneHeld range i = (n : ℕ) → ¬ IsHeld range i n

-- the least group that is privileged if anything may be entered
pub record FirstPrivileged (i : Image) (g : ℕ) : Type 0 where
  pub privileged : Privileged i All g
  pub least : (h : ℕ) → Privileged i All h → g ≤ h

abbrev pub NonePrivileged : Image → Type 0
NonePrivileged i = (g : ℕ) → ¬ Privileged i All g

-- no instruction pointer meets the range, and no group is privileged
pub record CanSweep (range : ℕ × ℕ) (i : Image) : Type 0 where
  pub held : NoneHeld range i
  pub privileged : NonePrivileged i

-- why an image is not swept; want of memory is an answer only if no instruction pointer meets the range
abbrev pub IsSweepError : ℕ × ℕ → Image → SweepError → Type 0
IsSweepError range i (errors.Held n) = FirstHeld range i n
IsSweepError range i (errors.Privileged g) = NoneHeld range i × FirstPrivileged i g
IsSweepError range i errors.NoMemory = NoneHeld range i
