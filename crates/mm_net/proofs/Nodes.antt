-- What stands at each place of a list, as of nodes or of links, and after an element of it was put.
use Rattle.std.proofs.Common.{◌≡◌, ◌≢◌, ℕ, zero, suc, ◌⊎◌, inl, inr, List, [], ◌∷◌, map, slice_get, slice_set, Some}
use Rattle.std.proofs.Common.{refl, sym, ap, subst, arith}
use Rattle.std.{proofs.lemmas.List.Elements.{All-from_recursion, recursion_from_All}, specs.List.{All, AllByRecursion}}

-- P holds of each element and its place
abbrev pub EachAt : {A : Type 0} → (ℕ → A → Type 0) → List A → Type 0
EachAt {A} P xs = (n : ℕ) (x : A) → slice_get xs n ≡ Some x → P n x

-- an element after one was put is that one, or stood there before at another place
pub set_cases : {A : Type 0} (xs : List A) (n m : ℕ) (x y : A) → slice_get (slice_set xs n x) m ≡ Some y → ((m ≡ n) × (y ≡ x)) ⊎ ((m ≢ n) × (slice_get xs m ≡ Some y))
set_cases [] n m x y is = cc
set_cases (z ∷ zs) zero zero x y is = inl (refl, cc)
set_cases (z ∷ zs) zero (suc m) x y is = inr (λ e. omega arith, is)
set_cases (z ∷ zs) (suc n) zero x y is = inr (λ e. omega arith, is)
set_cases (z ∷ zs) (suc n) (suc m) x y is = elim (set_cases zs n m x y is) [
  | inl here ↦ inl (ap suc here.0, here.1)
  | inr there ↦ inr (λ e. there.0 (omega arith), there.1)
]

-- what holds at each place stays so where an element is put of which it holds
pub each_put : {A : Type 0} (P : ℕ → A → Type 0) (xs : List A) (n : ℕ) (x : A) → EachAt P xs → P n x → EachAt P (slice_set xs n x)
each_put P xs n x each new m y is = elim (set_cases xs n m x y is) [
  | inl here ↦ subst (λ k. P k y) (sym here.0) (subst (P n) (sym here.1) new)
  | inr there ↦ each m y there.1
]

-- of each element of a list that was mapped
pub each_mapped : {A B : Type 0} (P : ℕ → B → Type 0) (f : A → B) (xs : List A) → EachAt (λ n x. P n (f x)) xs → EachAt P (map f xs)
each_mapped P f [] each n y is = cc
each_mapped P f (x ∷ xs) each zero y is = let same : f x ≡ y = cc in subst (P zero) same (each zero x refl)
each_mapped P f (x ∷ xs) each (suc n) y is = each_mapped (λ k. P (suc k)) f xs (λ k z at. each (suc k) z at) n y is

-- between elements by place and elements alone

each_of : {A : Type 0} (P : A → Type 0) (xs : List A) → AllByRecursion P xs → EachAt (λ n. P) xs
each_of P [] all n y is = cc
each_of P (x ∷ xs) all zero y is = let same : x ≡ y = cc in subst P same all.0
each_of P (x ∷ xs) all (suc n) y is = each_of P xs all.1 n y is

pub each_from_all : {A : Type 0} (P : A → Type 0) (xs : List A) → All P xs → EachAt (λ n. P) xs
each_from_all P xs all = each_of P xs (recursion_from_All P xs all)

by_places : {A : Type 0} (P : A → Type 0) (xs : List A) → EachAt (λ n. P) xs → AllByRecursion P xs
by_places P [] each = tt
by_places P (x ∷ xs) each = (each zero x refl, by_places P xs (λ n y is. each (suc n) y is))

pub all_from_each : {A : Type 0} (P : A → Type 0) (xs : List A) → EachAt (λ n. P) xs → All P xs
all_from_each P xs each = All-from_recursion P xs (by_places P xs each)
