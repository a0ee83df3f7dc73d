-- What a list has at a place, also where an element was set.
use Rattle.std.proofs.Common.{◌≡◌, ◌≢◌, ◌⊎◌, inl, inr, ℕ, zero, suc, ◌<◌, ◌≤◌, true, false, eqb, List, [], ◌∷◌, length}
use Rattle.std.proofs.Common.{get_or, slice_get, slice_set, map, Option, Some, None, IsSome, is_some, refl, sym, ap}
use Rattle.std.proofs.Common.{◌∙◌, arith}
use Rattle.std.proofs.lemmas.Option.{slice_get-map, same_Some, slice_get_read, slice_get_past}
use Rattle.std.{proofs.lemmas.Bool.{cases_lt, Decides.nat_tests}, specs.Option.option_map}
use Rattle.mm_model.proofs.Memories.{get_set_other}

pub set_here : {A : Type 0} (xs : List A) (i : ℕ) (x y : A) → slice_get xs i ≡ Some x → slice_get (slice_set xs i y) i ≡ Some y
set_here [] i x y is = cc
set_here (z ∷ xs) zero x y is = refl
set_here (z ∷ xs) (suc i) x y is = set_here xs i x y is

-- what is there in the end was there before, or is what was set
pub set_same : {A : Type 0} (xs : List A) (i : ℕ) (x y z : A) → slice_get xs i ≡ Some x → slice_get (slice_set xs i y) i ≡ Some z → z ≡ y
set_same xs i x y z here is = same_Some z y (sym is ∙ set_here xs i x y here)

pub set_other : {A : Type 0} (xs : List A) (i k : ℕ) (y x z : A) → k ≢ i → slice_get xs k ≡ Some x → slice_get (slice_set xs i y) k ≡ Some z → z ≡ x
set_other xs i k y x z ne was is = same_Some z x (sym is ∙ get_set_other xs i k y ne ∙ was)

pub map_at : {A B : Type 0} (f : A → B) (xs : List A) (i : ℕ) (o : Option A) → slice_get xs i ≡ o → slice_get (map f xs) i ≡ option_map f o
map_at f xs i o is = slice_get-map f xs i ∙ ap (option_map f) is

pub unequal : (a b : ℕ) → eqb a b ≡ false → a ≢ b
unequal a b is = grind (arith, nat_tests)

-- what a look-up found, and where it found nothing
pub found : {A R : Type 0} (xs : List A) (n i : ℕ) (o : Option R) (r : R) (x : A) → n ≡ length xs → (IsSome o → i < n) → o ≡ Some r → x ≡ get_or xs i x → slice_get xs i ≡ Some x
found xs n i o r x size inside is at = slice_get_read xs n i x size (inside (ap is_some is)) at

none_is_some : {R : Type 0} (o : Option R) → o ≡ None → ¬ IsSome o
none_is_some o is some = let clash : false ≡ true = sym (ap is_some is) ∙ some in cc

pub not_found : {A R : Type 0} (xs : List A) (n i : ℕ) (o : Option R) → n ≡ length xs → (i < n → IsSome o) → o ≡ None → slice_get xs i ≡ None
not_found xs n i o size inside is = slice_get_past xs i (by (cases_lt i n))
  where
    by : (i < n) ⊎ (n ≤ i) → length xs ≤ i
    by (inl lt) = absurd (none_is_some o is (inside lt))
    by (inr le) = omega arith

-- setting what is there changes nothing
pub set_found : {A : Type 0} (xs : List A) (i : ℕ) (x : A) → slice_get xs i ≡ Some x → slice_set xs i x ≡ xs
set_found [] i x is = refl
set_found (y ∷ xs) zero x is = ap (λ z. z ∷ xs) (sym (same_Some y x is))
set_found (y ∷ xs) (suc i) x is = ap (λ zs. y ∷ zs) (set_found xs i x is)
