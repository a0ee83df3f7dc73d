-- The accesses that a step tells, and those that were made.
use Rattle.std.specs.Prelude.{ℕ, List, [], ◌∷◌, ◌++◌, Option, Some, None}
use Rattle.mm_word.specs.{declared.perm.Kind.Kind, Access.AccessValue}
use Rattle.mm_model.specs.{declared.step.Step.Step, Uses.{Use, Accessed, Removed}}

-- the accesses among uses, each with its kind and its word
abbrev pub accesses_in : List Use → List (Kind × ℕ)
accesses_in [] = []
accesses_in (Accessed kind word found done ∷ us) = (kind, word) ∷ accesses_in us
accesses_in (Removed page ∷ us) = accesses_in us

abbrev pub access_shown : Option AccessValue → List (Kind × ℕ)
access_shown None = []
access_shown (Some t) = (t.kind, t.addr) ∷ []

-- the accesses that a step tells, the fetch first
abbrev pub accesses_shown : Step → List (Kind × ℕ)
accesses_shown step = access_shown step.fetched ++ access_shown step.touched
