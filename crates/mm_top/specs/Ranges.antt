-- Ranges of addresses that cannot be swept.
use Rattle.std.specs.Prelude.{ℕ}
use Rattle.mm_model.specs.Image.{Image}
use Rattle.mm_sweep.specs.Refusals.{IsSweepError}
use Rattle.mm_load.specs.declared.status.Refusal.{Refusal, TheVariants.{Held, Privileged}}
use Rattle.mm_sweep.specs.declared.sweeping.SweepError.TheVariants as sweeping

-- why an image is not swept: the segment of a slot's instruction pointer meets the range, and this is the least such
-- slot; or else a group is privileged, and this is the least such group
abbrev pub SweepRefused : ℕ × ℕ → Image → Refusal → Type 0
SweepRefused range i (Held n) = IsSweepError range i (sweeping.Held n)
SweepRefused range i (Privileged g) = IsSweepError range i (sweeping.Privileged g)
SweepRefused range i _ = ⊥
