-- What is in a list, and what holds of each item, also of one whose last item changes.
use Rattle.std.proofs.Common.{◌≡◌, ℕ, zero, suc, ◌+◌, ◌≤◌, Bool, true, false, ◌||◌, List, [], ◌∷◌, ◌++◌, map, length}
use Rattle.std.proofs.Common.{slice_get, Some, None, option_map, refl, sym, ap, ◌∙◌, inl, inr, arith}
use Rattle.std.proofs.lemmas.Bool.{and_from, false_from_ne_true, or_left, or_right}
use Rattle.std.specs.List.{flat_map, list_any, list_all, AllByRecursion}
use Rattle.mm_draft.specs.Drafts.{last, change_last}
use Rattle.mm_object.proofs.Members.{In, found}

-- 1. Each.

pub each_weaker : {A : Type 0} (P Q : A → Type 0) (xs : List A) → ((x : A) → P x → Q x) → AllByRecursion P xs → AllByRecursion Q xs
each_weaker P Q [] w h = tt
each_weaker P Q (x ∷ xs) w h = (w x h.0, each_weaker P Q xs w h.1)

pub passes : {A : Type 0} (p : A → Bool) (xs : List A) → AllByRecursion (λ x. p x ≡ true) xs → list_all p xs ≡ true
passes p [] h = refl
passes p (x ∷ xs) h = and_from _ _ h.0 (passes p xs h.1)

pub any_found : {A : Type 0} (p : A → Bool) (x : A) (xs : List A) → In x xs → p x ≡ true → list_any p xs ≡ true
any_found p x [] h k = absurd h
any_found p x (y ∷ xs) (inl e) k = or_left (p y) (list_any p xs) (ap p (sym e) ∙ k)
any_found p x (y ∷ xs) (inr h) k = or_right (p y) (list_any p xs) (any_found p x xs h k)

pub none_found : {A : Type 0} (p : A → Bool) (xs : List A) → ((x : A) → In x xs → p x ≡ true → ⊥) → list_any p xs ≡ false
none_found p xs h = false_from_ne_true (list_any p xs) (λ k. let r = found p xs k in h r.0 r.1 r.2)

-- 2. Empty lists.

pub none_both : {A : Type 0} (xs ys : List A) → xs ++ ys ≡ [] → (xs ≡ []) × (ys ≡ [])
none_both [] ys e = (refl, e)
none_both (x ∷ xs) ys e = absurd cc

pub none_flat : {A B : Type 0} (f : A → List B) (x : A) (xs : List A) → flat_map f xs ≡ [] → In x xs → f x ≡ []
none_flat f x [] e h = absurd h
none_flat f x (y ∷ xs) e (inl same) = ap f same ∙ (none_both (f y) (flat_map f xs) e).0
none_flat f x (y ∷ xs) e (inr h) = none_flat f x xs (none_both (f y) (flat_map f xs) e).1 h

pub none_map : {A B : Type 0} (f : A → B) (xs : List A) → map f xs ≡ [] → xs ≡ []
none_map f [] e = refl
none_map f (x ∷ xs) e = absurd cc

-- 4. An item at its place.

pub get_map : {A B : Type 0} (f : A → B) (xs : List A) (i : ℕ) → slice_get (map f xs) i ≡ option_map f (slice_get xs i)
get_map f [] i = refl
get_map f (x ∷ xs) zero = refl
get_map f (x ∷ xs) (suc i) = get_map f xs i

-- 5. The last item changes.

module _ {A : Type 0} (f : A → A) where
  pub each_changed : (P : A → Type 0) (xs : List A) → AllByRecursion P xs → ((x : A) → last xs ≡ Some x → P x → P (f x)) → AllByRecursion P (change_last f xs)
  each_changed P [] h k = tt
  each_changed P (x ∷ []) h k = (k x refl h.0, tt)
  each_changed P (x ∷ y ∷ xs) h k = (h.0, each_changed P (y ∷ xs) h.1 k)

  pub length_changed : (xs : List A) → length (change_last f xs) ≡ length xs
  length_changed [] = refl
  length_changed (x ∷ []) = refl
  length_changed (x ∷ y ∷ xs) = ap suc (length_changed (y ∷ xs))

  pub map_changed : {B : Type 0} (g : A → B) (xs : List A) → ((x : A) → g (f x) ≡ g x) → map g (change_last f xs) ≡ map g xs
  map_changed g [] h = refl
  map_changed g (x ∷ []) h = ap (λ y. y ∷ []) (h x)
  map_changed g (x ∷ y ∷ xs) h = ap (λ ys. g x ∷ ys) (map_changed g (y ∷ xs) h)

-- a sum over a list
abbrev pub total : {A : Type 0} → (A → ℕ) → List A → ℕ
total g [] = 0
total g (x ∷ xs) = g x + total g xs

pub total_more : {A : Type 0} (g : A → ℕ) (xs ys : List A) → total g (xs ++ ys) ≡ total g xs + total g ys
total_more g [] ys = omega arith
total_more g (x ∷ xs) ys = omega (arith, total_more g xs ys)

pub total_changed : {A : Type 0} (g : A → ℕ) (f : A → A) (k : ℕ) (xs : List A) → ((x : A) → g (f x) ≤ g x + k) → total g (change_last f xs) ≤ total g xs + k
total_changed g f k [] h = omega arith
total_changed g f k (x ∷ []) h = omega (arith, h x)
total_changed g f k (x ∷ y ∷ xs) h = omega (arith, total_changed g f k (y ∷ xs) h)
