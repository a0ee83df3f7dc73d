-- What is in a list, and what holds of each item.
use Rattle.std.proofs.Common.{◌≡◌, ◌⊎◌, ℕ, zero, suc, ◌+◌, ◌<◌, ◌≤◌, Bool, true, false, cond, List, [], ◌∷◌, ◌++◌, map}
use Rattle.std.proofs.Common.{length, get_or, take, drop, replicate, find, Some, None, refl, sym, ap, ◌∙◌, subst, inl}
use Rattle.std.proofs.{Common.{inr, arith}, lemmas.Bool.{cases_lt, or_parts, cond-true, and_parts}}
use Rattle.std.specs.Prelude.{Contains, ◌||◌}
use Rattle.std.specs.List.{flat_map, filter, list_any, list_all, range_with_len, AllByRecursion}
-- names by which crates above know them
pub use Rattle.mm_model.proofs.CoreRows.{into_map as each_map}

-- 1. Membership.

abbrev pub In : {A : Type 0} → A → List A → Type 0
In x [] = ⊥
In x (y ∷ ys) = (x ≡ y) ⊎ In x ys

pub in_left : {A : Type 0} (x : A) (xs ys : List A) → In x xs → In x (xs ++ ys)
in_left x [] ys h = absurd h
in_left x (y ∷ xs) ys (inl e) = inl e
in_left x (y ∷ xs) ys (inr h) = inr (in_left x xs ys h)

pub in_right : {A : Type 0} (x : A) (xs ys : List A) → In x ys → In x (xs ++ ys)
in_right x [] ys h = h
in_right x (y ∷ xs) ys h = inr (in_right x xs ys h)

pub in_either : {A : Type 0} (x : A) (xs ys : List A) → In x (xs ++ ys) → In x xs ⊎ In x ys
in_either x [] ys h = inr h
in_either x (y ∷ xs) ys (inl e) = inl (inl e)
in_either x (y ∷ xs) ys (inr h) = elim (in_either x xs ys h) [ inl l ↦ inl (inr l) | inr r ↦ inr r ]

pub in_map : {A B : Type 0} (f : A → B) (x : A) (xs : List A) → In x xs → In (f x) (map f xs)
in_map f x [] h = absurd h
in_map f x (y ∷ xs) (inl e) = inl (ap f e)
in_map f x (y ∷ xs) (inr h) = inr (in_map f x xs h)

pub from_map : {A B : Type 0} (f : A → B) (y : B) (xs : List A) → In y (map f xs) → (x : A) × In x xs × (y ≡ f x)
from_map f y [] h = absurd h
from_map f y (x ∷ xs) (inl e) = (x, inl refl, e)
from_map f y (x ∷ xs) (inr h) = let r = from_map f y xs h in (r.0, inr r.1, r.2)

pub in_flat : {A B : Type 0} (f : A → List B) (x : A) (y : B) (xs : List A) → In x xs → In y (f x) → In y (flat_map f xs)
in_flat f x y [] h k = absurd h
in_flat f x y (z ∷ xs) (inl e) k = in_left y (f z) (flat_map f xs) (subst (λ w. In y (f w)) e k)
in_flat f x y (z ∷ xs) (inr h) k = in_right y (f z) (flat_map f xs) (in_flat f x y xs h k)

pub from_flat : {A B : Type 0} (f : A → List B) (y : B) (xs : List A) → In y (flat_map f xs) → (x : A) × In x xs × In y (f x)
from_flat f y [] h = absurd h
from_flat f y (z ∷ xs) h =
    elim (in_either y (f z) (flat_map f xs) h) [
      | inl here ↦ (z, inl refl, here)
      | inr later ↦ let r = from_flat f y xs later in (r.0, inr r.1, r.2)
    ]

pub in_filter : {A : Type 0} (p : A → Bool) (x : A) (xs : List A) → In x xs → p x ≡ true → In x (filter p xs)
in_filter p x [] h e = absurd h
in_filter p x (y ∷ xs) (inl same) e = subst (In x) (sym (cond-true (p y) (y ∷ filter p xs) (filter p xs) (ap p (sym same) ∙ e))) (inl same)
in_filter p x (y ∷ xs) (inr h) e =
    elim (p y) as (λ b. In x (cond b (y ∷ filter p xs) (filter p xs))) [ true ↦ inr (in_filter p x xs h e) | false ↦ in_filter p x xs h e ]

pub from_filter : {A : Type 0} (p : A → Bool) (x : A) (xs : List A) → In x (filter p xs) → In x xs × (p x ≡ true)
from_filter p x [] h = absurd h
from_filter p x (y ∷ xs) h = by (p y) refl h (from_filter p x xs)
  where
    by : (b : Bool) → p y ≡ b → In x (cond b (y ∷ filter p xs) (filter p xs)) → (In x (filter p xs) → In x xs × (p x ≡ true)) → In x (y ∷ xs) × (p x ≡ true)
    by true e (inl same) later = (inl same, ap p same ∙ e)
    by true e (inr k) later = let r = later k in (inr r.0, r.1)
    by false e k later = let r = later k in (inr r.0, r.1)

pub in_range : (n from k : ℕ) → from ≤ k → k < from + n → In k (range_with_len from n)
in_range zero from k low high = absurd (omega arith)
in_range (suc n) from k low high =
    elim (cases_lt from k) [
      | inl below ↦ inr (in_range n (from + 1) k (omega arith) (omega arith))
      | inr above ↦ inl (omega arith)
    ]

-- as std's word says it

pub contained : {A : Type 0} (x : A) (xs : List A) → In x xs → Contains xs x
contained x [] h = absurd h
contained x (y ∷ xs) (inl e) = (0, omega arith, sym e)
contained x (y ∷ xs) (inr h) = let r = contained x xs h in (suc r.0, omega (arith, r.1), r.2)

in_place : {A : Type 0} (x : A) (xs : List A) (k : ℕ) → k < length xs → get_or xs k x ≡ x → In x xs
in_place x [] k lt e = absurd (omega arith)
in_place x (y ∷ xs) zero lt e = inl (sym e)
in_place x (y ∷ xs) (suc k) lt e = inr (in_place x xs k (omega arith) e)

pub from_contained : {A : Type 0} (x : A) (xs : List A) → Contains xs x → In x xs
from_contained x xs h = in_place x xs h.0 h.1 h.2

-- 2. Each.

pub each_in : {A : Type 0} (P : A → Type 0) (x : A) (xs : List A) → AllByRecursion P xs → In x xs → P x
each_in P x [] h k = absurd k
each_in P x (y ∷ xs) h (inl e) = subst P (sym e) h.0
each_in P x (y ∷ xs) h (inr k) = each_in P x xs h.1 k

pub each_from : {A : Type 0} (P : A → Type 0) (xs : List A) → ((x : A) → In x xs → P x) → AllByRecursion P xs
each_from P [] h = tt
each_from P (x ∷ xs) h = (h x (inl refl), each_from P xs (λ y k. h y (inr k)))

pub each_more : {A : Type 0} (P : A → Type 0) (xs ys : List A) → AllByRecursion P xs → AllByRecursion P ys → AllByRecursion P (xs ++ ys)
each_more P [] ys h k = k
each_more P (x ∷ xs) ys h k = (h.0, each_more P xs ys h.1 k)

pub each_replicate : {A : Type 0} (P : A → Type 0) (n : ℕ) (x : A) → P x → AllByRecursion P (replicate n x)
each_replicate P zero x h = tt
each_replicate P (suc n) x h = (h, each_replicate P n x h)

pub each_take : {A : Type 0} (P : A → Type 0) (n : ℕ) (xs : List A) → AllByRecursion P xs → AllByRecursion P (take n xs)
each_take P zero xs h = tt
each_take P (suc n) [] h = tt
each_take P (suc n) (x ∷ xs) h = (h.0, each_take P n xs h.1)

pub each_drop : {A : Type 0} (P : A → Type 0) (n : ℕ) (xs : List A) → AllByRecursion P xs → AllByRecursion P (drop n xs)
each_drop P zero xs h = h
each_drop P (suc n) [] h = tt
each_drop P (suc n) (x ∷ xs) h = each_drop P n xs h.1

pub each_passes : {A : Type 0} (p : A → Bool) (xs : List A) → list_all p xs ≡ true → AllByRecursion (λ x. p x ≡ true) xs
each_passes p [] h = tt
each_passes p (x ∷ xs) h = let parts = and_parts _ _ h in (parts.0, each_passes p xs parts.1)

pub each_left : {A : Type 0} (P : A → Type 0) (xs ys : List A) → AllByRecursion P (xs ++ ys) → AllByRecursion P xs
each_left P [] ys h = tt
each_left P (x ∷ xs) ys h = (h.0, each_left P xs ys h.1)

-- 3. Tests of each.

pub each_passing : {A : Type 0} (p : A → Bool) (xs : List A) → AllByRecursion (λ x. p x ≡ true) (filter p xs)
each_passing p xs = each_from (λ x. p x ≡ true) (filter p xs) (λ x is. (from_filter p x xs is).1)

pub found : {A : Type 0} (p : A → Bool) (xs : List A) → list_any p xs ≡ true → (x : A) × In x xs × (p x ≡ true)
found p [] h = absurd cc
found {A = A} p (x ∷ xs) h = by (p x) refl h (found p xs)
  where
    by : (b : Bool) → p x ≡ b → (b || list_any p xs) ≡ true → (list_any p xs ≡ true → (y : A) × In y xs × (p y ≡ true)) → (y : A) × In y (x ∷ xs) × (p y ≡ true)
    by true e k later = (x, inl refl, e)
    by false e k later = let r = later k in (r.0, inr r.1, r.2)

pub none_passes : {A : Type 0} (p : A → Bool) (xs : List A) → list_any p xs ≡ false → (x : A) → In x xs → p x ≡ false
none_passes p [] h x k = absurd k
none_passes p (y ∷ xs) h x (inl e) = ap p e ∙ (or_parts (p y) (list_any p xs) h).0
none_passes p (y ∷ xs) h x (inr k) = none_passes p xs (or_parts (p y) (list_any p xs) h).1 x k

pub not_found : {A : Type 0} (p : A → Bool) (xs : List A) → find p xs ≡ None → (x : A) → In x xs → p x ≡ false
not_found p [] h x k = absurd k
not_found {A = A} p (y ∷ xs) h x k = by (p y) refl h k (λ none. not_found p xs none x)
  where
    by : (b : Bool) → p y ≡ b → cond b (Some y) (find p xs) ≡ None → In x (y ∷ xs) → (find p xs ≡ None → In x xs → p x ≡ false) → p x ≡ false
    by true e h k later = absurd cc
    by false e h (inl same) later = ap p same ∙ e
    by false e h (inr k) later = later h k
