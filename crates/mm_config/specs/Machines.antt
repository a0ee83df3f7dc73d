-- What a machine with its configurations is to those who use it.
use Rattle.std.specs.Prelude.{◌≡◌, ℕ, ◌<◌, ◌≤◌, Bool, true, false, List, [], ◌∷◌, ◌++◌, length, slice_get, Some, Contains}
use Rattle.mm_model.specs.{State.State, Slot.Slot}
use Rattle.mm_config.specs.declared.configs.Looked.{Looked, TheVariants.{Known, New, Full}}

-- the configurations that were kept, in the order in which they were, and that of the machine
pub record Configs : Type 0 where
  pub kept : List State
  pub machine : State

-- what keeping the machine's configuration answers, where no more than a limit are kept, and what there is after it
abbrev pub Keeps : ℕ → Looked → Configs → Configs → Type 0
Keeps limit (Known at) old new = (slice_get old.kept at ≡ Some old.machine) × (new ≡ old)
Keeps limit New old new =
    (Contains old.kept old.machine → ⊥) × (length old.kept < limit)
    × (new ≡ record old { kept = old.kept ++ old.machine ∷ [] })
Keeps limit Full old new = (Contains old.kept old.machine → ⊥) × (limit ≤ length old.kept) × (new ≡ old)

-- whether slots of two lists are not the same, one flag for each
abbrev pub IsApartBy : Bool → Slot → Slot → Type 0
IsApartBy true a b = a ≡ b → ⊥
IsApartBy false a b = a ≡ b

abbrev pub AreApart : List Bool → List Slot → List Slot → Type 0
AreApart [] [] [] = Unit {0}
AreApart (f ∷ flags) (s ∷ slots) (o ∷ others) = IsApartBy f s o × AreApart flags slots others
AreApart _ _ _ = ⊥
