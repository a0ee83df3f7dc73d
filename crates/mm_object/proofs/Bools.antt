-- Answers that are settled, and lists that a loop goes through.
use Rattle.std.proofs.Common.{◌≡◌, ℕ, zero, suc, ◌+◌, ◌<◌, ◌≤◌, Bool, true, false, List, [], ◌∷◌, length, get_or, take}
use Rattle.std.proofs.Common.{map, ◌++◌, refl, sym, ap, ◌∙◌, arith, append_assoc}
use Rattle.std.proofs.lemmas.{List.take_all, Bool.{or_parts, and_parts}}
use Rattle.std.specs.{Prelude.◌||◌, List.{list_any, list_all, flat_map}}
-- names by which crates above know them
pub use Rattle.std.proofs.lemmas.Bool.{false_from_ne_true as is_false, or_from as none_of}

module _ {A : Type 0} (p : A → Bool) where
  pub any-map : {B : Type 0} (f : B → A) (xs : List B) → list_any p (map f xs) ≡ list_any (λ x. p (f x)) xs
  any-map f [] = refl
  any-map f (x ∷ xs) = ap (λ b. p (f x) || b) (any-map f xs)

  -- each element has passed, or none has
  pub all_at : (xs : List A) → list_all p xs ≡ true → (k : ℕ) (d : A) → k < length xs → p (get_or xs k d) ≡ true
  all_at [] h k d lt = absurd (omega arith)
  all_at (x ∷ xs) h zero d lt = (and_parts _ _ h).0
  all_at (x ∷ xs) h (suc k) d lt = all_at xs (and_parts _ _ h).1 k d (omega arith)

  pub none_at : (xs : List A) → list_any p xs ≡ false → (k : ℕ) (d : A) → k < length xs → p (get_or xs k d) ≡ false
  none_at [] h k d lt = absurd (omega arith)
  none_at (x ∷ xs) h zero d lt = (or_parts _ _ h).0
  none_at (x ∷ xs) h (suc k) d lt = none_at xs (or_parts _ _ h).1 k d (omega arith)

  pub whole_any : (xs : List A) (i : ℕ) → list_any p (take i xs) ≡ false → length xs ≤ i → false ≡ list_any p xs
  whole_any xs i h le = sym (sym (ap (list_any p) (take_all i xs le)) ∙ h)

-- one element more
pub flat_map-more : {A B : Type 0} (f : A → List B) (xs : List A) (i : ℕ) (d : A) → i < length xs → flat_map f (take (i + 1) xs) ≡ flat_map f (take i xs) ++ f (get_or xs i d)
flat_map-more f [] i d lt = absurd (omega arith)
flat_map-more f (x ∷ xs) zero d lt = Rattle.std.proofs.lemmas.List.append-nil (f x)
flat_map-more f (x ∷ xs) (suc i) d lt =
    let next : suc i + 1 ≡ suc (i + 1) = omega arith in
    ap (λ n. flat_map f (take n (x ∷ xs))) next ∙ ap (λ ys. f x ++ ys) (flat_map-more f xs i d (omega arith)) ∙ sym (append_assoc (f x) (flat_map f (take i xs)) (f (get_or xs i d)))

pub map-more : {A B : Type 0} (f : A → B) (xs : List A) (i : ℕ) (d : A) → i < length xs → map f (take (i + 1) xs) ≡ map f (take i xs) ++ f (get_or xs i d) ∷ []
map-more f [] i d lt = absurd (omega arith)
map-more f (x ∷ xs) zero d lt = refl
map-more f (x ∷ xs) (suc i) d lt =
    let next : suc i + 1 ≡ suc (i + 1) = omega arith in
    ap (λ n. map f (take n (x ∷ xs))) next ∙ ap (λ ys. f x ∷ ys) (map-more f xs i d (omega arith))
