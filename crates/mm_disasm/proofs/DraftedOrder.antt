-- Lists in an order: two with the same items are the same.
use Rattle.std.proofs.Common.{◌≡◌, ℕ, suc, ◌+◌, ◌<◌, Bool, true, List, [], ◌∷◌, map, get_or, refl, sym, ap, ◌∙◌, subst}
use Rattle.std.proofs.{Common.{inl, inr, arith}, lemmas.Bool.and_parts}
use Rattle.std.specs.List.{list_all, AllByRecursion, Sorted.IsStrictlyIncreasing}
use Rattle.mm_object.{specs.{Names.is_before, Objects.ascend}, proofs.Members.{In, each_in}}
use Rattle.mm_asm.proofs.{Lists.each_weaker, Order.before_all}

-- one item of a list passes what all do
pub one_passes : {A : Type 0} (p : A → Bool) (xs : List A) (x : A) → list_all p xs ≡ true → In x xs → p x ≡ true
one_passes p [] x h m = absurd m
one_passes p (y ∷ xs) x h (inl e) = ap p e ∙ (and_parts (p y) (list_all p xs) h).0
one_passes p (y ∷ xs) x h (inr m) = one_passes p xs x (and_parts (p y) (list_all p xs) h).1 m

-- each item stands before all behind it
abbrev pub Ascends : {A : Type 0} → (A → A → Type 0) → List A → Type 0
Ascends R [] = Unit {0}
Ascends R (x ∷ xs) = AllByRecursion (R x) xs × Ascends R xs

-- 1. The same items.

module _ {A : Type 0} (R : A → A → Type 0) (one_way : (x y : A) → R x y → R y x → ⊥) where
  first_same : (x y : A) (xs ys : List A) → AllByRecursion (R x) xs → AllByRecursion (R y) ys → In x (y ∷ ys) → In y (x ∷ xs) → x ≡ y
  first_same x y xs ys h k (inl e) n = e
  first_same x y xs ys h k (inr m) (inl e) = sym e
  first_same x y xs ys h k (inr m) (inr n) = absurd (one_way x y (each_in (R x) y xs h n) (each_in (R y) x ys k m))

  in_rest : (x y z : A) (xs ys : List A) → x ≡ y → AllByRecursion (R x) xs → In z xs → In z (y ∷ ys) → In z ys
  in_rest x y z xs ys e h m (inl f) = let r : R x x = subst (R x) (f ∙ sym e) (each_in (R x) z xs h m) in absurd (one_way x x r r)
  in_rest x y z xs ys e h m (inr n) = n

  pub same_items : (xs ys : List A) → Ascends R xs → Ascends R ys → ((x : A) → In x xs → In x ys) → ((y : A) → In y ys → In y xs) → xs ≡ ys
  same_items [] [] h k to from = refl
  same_items [] (y ∷ ys) h k to from = absurd (from y (inl refl))
  same_items (x ∷ xs) [] h k to from = absurd (to x (inl refl))
  same_items (x ∷ xs) (y ∷ ys) h k to from =
      let e : x ≡ y = first_same x y xs ys h.0 k.0 (to x (inl refl)) (from y (inl refl)) in
      let rest : xs ≡ ys = same_items xs ys h.1 k.1 (λ z m. in_rest x y z xs ys e h.0 m (to z (inr m))) (λ z m. in_rest y x z ys xs (sym e) k.0 m (from z (inr m))) in
      cc

-- 2. Numbers.

pub ascends_by : {A : Type 0} (key : A → ℕ) (xs : List A) → IsStrictlyIncreasing (map key xs) → Ascends (λ x y. key x < key y) xs
ascends_by key [] h = tt
ascends_by key (x ∷ []) h = (tt, tt)
ascends_by key (x ∷ y ∷ xs) h =
    let rest = ascends_by key (y ∷ xs) (λ k lt.
    let next : suc k + 1 ≡ suc (k + 1) = omega arith in
    let here : get_or (map key (x ∷ y ∷ xs)) (suc k) 0 < get_or (map key (x ∷ y ∷ xs)) (suc k + 1) 0 = h (suc k) (omega arith) in
    rw next at here) in
    let first : key x < key y = h 0 (omega arith) in
    ((first, each_weaker (λ z. key y < key z) (λ z. key x < key z) xs (λ z lt. omega arith) rest.0), rest)

-- two items with one key are the same
pub one_item : {A : Type 0} (key : A → ℕ) (x y : A) (xs : List A) → Ascends (λ x y. key x < key y) xs → In x xs → In y xs → key x ≡ key y → x ≡ y
one_item key x y [] h m n e = absurd m
one_item key x y (z ∷ xs) h (inl f) (inl g) e = f ∙ sym g
one_item key x y (z ∷ xs) h (inl f) (inr n) e = let lt = each_in (λ w. key z < key w) y xs h.0 n in absurd (let same = ap key f in omega (arith, lt, same, e))
one_item key x y (z ∷ xs) h (inr m) (inl g) e = let lt = each_in (λ w. key z < key w) x xs h.0 m in absurd (let same = ap key g in omega (arith, lt, same, e))
one_item key x y (z ∷ xs) h (inr m) (inr n) e = one_item key x y xs h.1 m n e

-- 3. Names.

pub ascend_all : (names : List (List ℕ)) → ascend names ≡ true → Ascends (λ a b. is_before a b ≡ true) names
ascend_all [] h = tt
ascend_all (a ∷ []) h = (tt, tt)
ascend_all (a ∷ b ∷ names) h =
    let parts = and_parts (is_before a b) (ascend (b ∷ names)) h in
    let rest = ascend_all (b ∷ names) parts.1 in
    ((parts.0, each_weaker (λ c. is_before b c ≡ true) (λ c. is_before a c ≡ true) names (λ c k. before_all a b c parts.0 k) rest.0), rest)
