-- The order of schedules, which are lists of items.
use Rattle.std.specs.Prelude.{◌≡◌, ◌⊎◌, ℕ, ◌<◌, List, ◌∷◌, length}
use Rattle.mm_span.specs.Pairs.{EachPair}

-- at the first place where two schedules differ, this one has the lesser item
abbrev pub IsLess : List ℕ → List ℕ → Type 0
IsLess (a ∷ s) (b ∷ t) = (a < b) ⊎ ((a ≡ b) × IsLess s t)
IsLess _ _ = ⊥

-- a schedule comes before another: it is shorter, or as long and less
abbrev pub Before : List ℕ → List ℕ → Type 0
Before s t = (length s < length t) ⊎ ((length s ≡ length t) × IsLess s t)

-- each schedule of a list comes before all that follow it
abbrev pub InOrder : List (List ℕ) → Type 0
InOrder ts = EachPair Before ts
