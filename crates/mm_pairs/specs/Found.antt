-- How what is kept is found: by a number that most have for themselves, and else one by one.
use Rattle.std.specs.Prelude.{◌≡◌, ◌≢◌, ◌⊎◌, ℕ, suc, Bool, ◌&&◌, nat_eq, List, slice_get, slice_index_or, Option, Some}
use Rattle.indexmap.specs.IndexMap.{IndexMap, get}

abbrev pub same_pair : ℕ × ℕ → ℕ × ℕ → Bool
same_pair x y = nat_eq x.0 y.0 && nat_eq x.1 y.1

-- it is not kept
abbrev pub IsAbsent : {A : Type 0} → List A → A → Type 0
IsAbsent kept x = (at : ℕ) → slice_get kept at ≢ Some x

-- What is kept has a number each. For a number there is one more than the index of the earliest that has it, and 0 if there
-- is none; of each other that has it there is the index.
pub record AreFound {A : Type 0} (number : A → ℕ) (kept : List A) (first : ℕ → ℕ) (rest : A → Option ℕ) : Type 0 where
  pub earliest : (n at : ℕ) → first n ≡ suc at → (x : A) × (slice_get kept at ≡ Some x) × (number x ≡ n)
  pub later : (x : A) (at : ℕ) → rest x ≡ Some at → (slice_get kept at ≡ Some x) × (first (number x) ≢ 0)
  pub each : (x : A) (at : ℕ) → slice_get kept at ≡ Some x → (first (number x) ≡ suc at) ⊎ (rest x ≡ Some at)

-- the number at a name; past the last there is 0
abbrev pub number_at : List ℕ → ℕ → ℕ
number_at numbers name = slice_index_or numbers name 0

-- pairs are found by their first name
abbrev pub AreKeysFound : {S : Type 0} → List (ℕ × ℕ) → List ℕ → IndexMap (ℕ × ℕ) ℕ S → Type 0
AreKeysFound kept first rest = AreFound (λ pair. pair.0) kept (number_at first) (get same_pair rest)
