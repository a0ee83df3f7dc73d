-- Names of what is kept: one less than an index. The name 0 is that of what is not kept.
use Rattle.std.specs.Prelude.{◌≡◌, ℕ, zero, suc, ◌≤◌, List, length, slice_index_or, take}
use Rattle.std.specs.List.{AllByRecursion}

-- what a name is of
abbrev pub named : {A : Type 0} → A → List A → ℕ → A
named none kept zero = none
named none kept (suc at) = slice_index_or kept at none

pub record IsNameOf {A : Type 0} (none : A) (kept : List A) (name : ℕ) (x : A) : Type 0 where
  pub within : name ≤ length kept
  pub is : named none kept name ≡ x

-- what was kept stays, under the name that it has
abbrev pub HasGrown : {A : Type 0} → List A → List A → Type 0
HasGrown old new = take (length old) new ≡ old

-- each has one name
abbrev pub HaveOneName : {A : Type 0} → A → List A → Type 0
HaveOneName none kept =
    (a b : ℕ) → a ≤ length kept → b ≤ length kept → named none kept a ≡ named none kept b → a ≡ b

-- each has its name beside it
abbrev pub AreNamed : {A : Type 0} → A → List A → List (A × ℕ) → Type 0
AreNamed none kept names = AllByRecursion (λ x. IsNameOf none kept x.1 x.0) names
