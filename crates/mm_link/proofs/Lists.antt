-- Lists that a loop goes through.
use Rattle.std.proofs.Common.{◌≡◌, ℕ, zero, suc, ◌+◌, ◌-◌, ◌*◌, ◌%◌, ◌^◌, ◌<◌, ◌≤◌, Bool, true, false, List, [], ◌∷◌}
use Rattle.std.proofs.Common.{◌++◌, length, get_or, take, drop, map, Option, Some, None, refl, sym, ap, ◌∙◌, arith}
use Rattle.std.proofs.{Common.{append_assoc, length-drop}, Math.Nat.pow-le-pow_right, lemmas.List.{take_all, drop_all}}
use Rattle.std.specs.{Prelude.{find, if◌then◌else◌}, List.{range_with_len, AllByRecursion}}

pub all_from : {A : Type 0} (P : A → Type 0) (xs : List A) (d : A) → ((i : ℕ) → i < length xs → P (get_or xs i d)) → AllByRecursion P xs
all_from P [] d h = tt
all_from P (x ∷ xs) d h = (h zero (omega arith), all_from P xs d (λ i lt. h (suc i) (omega arith)))

-- an item whatever stands for one past the end
pub itself : {A : Type 0} (xs : List A) (i : ℕ) (d : A) → i < length xs → get_or xs i d ≡ get_or xs i (get_or xs i d)
itself [] i d lt = absurd (omega arith)
itself (x ∷ xs) zero d lt = refl
itself (x ∷ xs) (suc i) d lt = itself xs i d (omega arith)

-- what is left of a list behind a place
pub whole_rest : {A : Type 0} (xs : List A) (i : ℕ) → take (length xs - i) (drop i xs) ≡ drop i xs
whole_rest xs i = take_all (length xs - i) (drop i xs) (omega (arith, length-drop i xs))

-- a power of two as a shift makes it
pub shifted : (log : ℕ) → log ≤ 20 → 1 * 2 ^ log % 2 ^ 64 ≡ 2 ^ log
shifted log le =
    let small : 2 ^ log ≤ 2 ^ 20 = pow-le-pow_right {n = 2} (omega arith) le in
    omega (arith, small)

-- the rest of a list, from a place on
pub rest_at : {A : Type 0} (xs : List A) (i : ℕ) (x : A) → i < length xs → x ≡ get_or xs i x → drop i xs ≡ x ∷ drop (i + 1) xs
rest_at [] i x lt is = absurd (omega arith)
rest_at (y ∷ xs) zero x lt is = ap (λ z. z ∷ xs) (sym is)
rest_at (y ∷ xs) (suc i) x lt is =
    let next : suc i + 1 ≡ suc (i + 1) = omega arith in
    rest_at xs i x (omega arith) is ∙ ap (λ n. x ∷ drop n (y ∷ xs)) (sym next)

module _ {A R : Type 0} (F : List A → R) (r : R) (xs : List A) (i : ℕ) where
  -- what a loop has still to find, with its next item in front
  pub at_item : (x : A) → i < length xs → x ≡ get_or xs i x → F (drop i xs) ≡ r → F (x ∷ drop (i + 1) xs) ≡ r
  at_item x lt is so_far = ap F (sym (rest_at xs i x lt is)) ∙ so_far

  -- and at its end
  pub at_end : length xs ≤ i → F (drop i xs) ≡ r → F [] ≡ r
  at_end le so_far = ap F (sym (drop_all i xs le)) ∙ so_far

-- a loop that pushes what comes of each item, by its place
module _ {A B : Type 0} (F : ℕ → List A → List B) (all made : List B) (xs : List A) (i : ℕ) (so_far : made ++ F i (drop i xs) ≡ all) where
  pub pushing : (new more : List B) (x : A) → i < length xs → x ≡ get_or xs i x → new ≡ made ++ more → F i (x ∷ drop (i + 1) xs) ≡ more ++ F (i + 1) (drop (i + 1) xs)
      → new ++ F (i + 1) (drop (i + 1) xs) ≡ all
  pushing new more x lt is now step =
      ap (λ ys. ys ++ F (i + 1) (drop (i + 1) xs)) now ∙ append_assoc made more (F (i + 1) (drop (i + 1) xs)) ∙ ap (λ ys. made ++ ys) (sym step)
      ∙ at_item (λ ys. made ++ F i ys) all xs i x lt is so_far

-- 2. Numbers in a row.

module _ (k n : ℕ) where
  pub from_number : k < n → range_with_len k (n - k) ≡ k ∷ range_with_len (k + 1) (n - (k + 1))
  from_number lt =
      let more : n - k ≡ suc (n - (k + 1)) = omega arith in
      ap (range_with_len k) more

  pub no_number : n ≤ k → range_with_len k (n - k) ≡ []
  no_number le =
      let none : n - k ≡ 0 = omega arith in
      ap (range_with_len k) none

-- the first of them that passes a test
module _ (p : ℕ → Bool) (r : Option ℕ) (k n : ℕ) (so_far : find p (range_with_len k (n - k)) ≡ r) where
  head : k < n → (if p k then Some k else find p (range_with_len (k + 1) (n - (k + 1)))) ≡ r
  head lt = ap (find p) (sym (from_number k n lt)) ∙ so_far

  pub find_here : k < n → p k ≡ true → r ≡ Some k
  find_here lt this = sym (head lt) ∙ ap (λ b. if b then Some k else find p (range_with_len (k + 1) (n - (k + 1)))) this

  pub find_next : k < n → p k ≡ false → find p (range_with_len (k + 1) (n - (k + 1))) ≡ r
  find_next lt this = ap (λ b. if b then Some k else find p (range_with_len (k + 1) (n - (k + 1)))) (sym this) ∙ head lt

  pub find_none : n ≤ k → r ≡ None
  find_none le = sym so_far ∙ ap (find p) (no_number k n le)

-- 3. Items one by one.

pub mapped : {A B : Type 0} (g : A → B) (made : List B) (xs : List A) (d : A) (e : B) → length made ≡ length xs
    → ((k : ℕ) → k < length xs → get_or made k e ≡ g (get_or xs k d)) → made ≡ map g xs
mapped g [] [] d e same each = refl
mapped g [] (x ∷ xs) d e same each = absurd (omega arith)
mapped g (y ∷ made) [] d e same each = absurd (omega arith)
mapped g (y ∷ made) (x ∷ xs) d e same each =
    ap (λ z. z ∷ made) (each zero (omega arith)) ∙ ap (λ ys. g x ∷ ys) (mapped g made xs d e (omega arith) (λ k lt. each (suc k) (omega arith)))
