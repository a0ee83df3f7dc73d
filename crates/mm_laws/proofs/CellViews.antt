-- Two lists of cells that rise by their words and have the same cells at the words of a test are the same there.
use Rattle.std.proofs.Common.{◌≡◌, ℕ, ◌<◌, ◌⊎◌, inl, inr, Bool, true, false, cond, List, [], ◌∷◌, refl, sym, ap, ◌∙◌}
use Rattle.std.{proofs.{Common.arith, lemmas.Bool.both_ways}, specs.List.{AllByRecursion, filter}}
use Rattle.mm_word.specs.declared.word.Cell.{Cell}
use Rattle.mm_model.proofs.{CoreRows.each_map, Filters.each_filter}

abbrev pub IsIn : {A : Type 0} → A → List A → Type 0
IsIn x [] = ⊥
IsIn x (y ∷ ys) = (x ≡ y) ⊎ IsIn x ys

abbrev pub Rising : List (ℕ × Cell) → Type 0
Rising [] = Unit {0}
Rising (x ∷ xs) = AllByRecursion (λ (y : ℕ × Cell). x.0 < y.0) xs × Rising xs

-- what passes in one list stands in the other
abbrev pub Passing : (ℕ → Type 0) → List (ℕ × Cell) → List (ℕ × Cell) → Type 0
Passing P xs ys = (w : ℕ) (c : Cell) → P w → IsIn (w, c) xs → IsIn (w, c) ys

-- 1. Lists with the same cells.

above : (k : ℕ) (x : ℕ × Cell) (xs : List (ℕ × Cell)) → AllByRecursion (λ (y : ℕ × Cell). k < y.0) xs → IsIn x xs → k < x.0
above k x [] h is = absurd is
above k x (y ∷ xs) h (inl e) = let same : x.0 ≡ y.0 = ap (λ (z : ℕ × Cell). z.0) e in let low = h.0 in omega arith
above k x (y ∷ xs) h (inr is) = above k x xs h.1 is

-- what stands behind the first of one list stands behind the same first of the other
in_rest : (x y z : ℕ × Cell) (xs ys : List (ℕ × Cell)) → x ≡ y → AllByRecursion (λ (v : ℕ × Cell). x.0 < v.0) xs → IsIn z xs → IsIn z (y ∷ ys) → IsIn z ys
in_rest x y z xs ys same low is (inr later) = later
in_rest x y z xs ys same low is (inl first) =
    let high = above x.0 z xs low is in
    let at : z.0 ≡ x.0 = ap (λ (v : ℕ × Cell). v.0) (first ∙ sym same) in
    absurd (omega arith)

same_first : (x y : ℕ × Cell) (xs ys : List (ℕ × Cell)) → Rising (x ∷ xs) → Rising (y ∷ ys) → IsIn x (y ∷ ys) → IsIn y (x ∷ xs) → x ≡ y
same_first x y xs ys up rising (inl e) back = e
same_first x y xs ys up rising (inr later) (inl e) = sym e
same_first x y xs ys up rising (inr later) (inr also) =
    let one = above y.0 x ys rising.0 later in
    let other = above x.0 y xs up.0 also in
    absurd (omega arith)

same_rising : (xs ys : List (ℕ × Cell)) → Rising xs → Rising ys → ((x : ℕ × Cell) → IsIn x xs → IsIn x ys) → ((x : ℕ × Cell) → IsIn x ys → IsIn x xs) → xs ≡ ys
same_rising [] [] up rising there back = refl
same_rising [] (y ∷ ys) up rising there back = absurd (back y (inl refl))
same_rising (x ∷ xs) [] up rising there back = absurd (there x (inl refl))
same_rising (x ∷ xs) (y ∷ ys) up rising there back =
    let first : x ≡ y = same_first x y xs ys up rising (there x (inl refl)) (back y (inl refl)) in
    let rest : xs ≡ ys =
    same_rising xs ys up.1 rising.1 (λ z is. in_rest x y z xs ys first up.0 is (there z (inr is))) (λ z is. in_rest y x z ys xs (sym first) rising.0 is (back z (inr is))) in
    ap (λ (l : List (ℕ × Cell)). x ∷ l) rest ∙ ap (λ (z : ℕ × Cell). z ∷ ys) first

-- 2. Their cells at the words of a test.

abbrev pub at_word : (ℕ → Bool) → ℕ × Cell → Bool
at_word p change = p change.0

module _ (p : ℕ → Bool) where
  pub filter_in : (x : ℕ × Cell) (xs : List (ℕ × Cell)) → IsIn x (filter (at_word p) xs) → IsIn x xs × (p x.0 ≡ true)
  filter_in x [] is = absurd is
  filter_in x (y ∷ xs) is = by (p y.0) refl is (filter_in x xs)
    where
      by : (b : Bool) → p y.0 ≡ b → IsIn x (cond b (y ∷ filter (at_word p) xs) (filter (at_word p) xs))
          → (IsIn x (filter (at_word p) xs) → IsIn x xs × (p x.0 ≡ true)) → IsIn x (y ∷ xs) × (p x.0 ≡ true)
      by true e (inl first) rest = (inl first, ap (λ (z : ℕ × Cell). p z.0) first ∙ e)
      by true e (inr later) rest = let r = rest later in (inr r.0, r.1)
      by false e later rest = let r = rest later in (inr r.0, r.1)

  pub in_filter : (x : ℕ × Cell) (xs : List (ℕ × Cell)) → IsIn x xs → p x.0 ≡ true → IsIn x (filter (at_word p) xs)
  in_filter x [] is t = absurd is
  in_filter x (y ∷ xs) is t = by (p y.0) refl is (λ later. in_filter x xs later t)
    where
      by : (b : Bool) → p y.0 ≡ b → IsIn x (y ∷ xs) → (IsIn x xs → IsIn x (filter (at_word p) xs)) → IsIn x (cond b (y ∷ filter (at_word p) xs) (filter (at_word p) xs))
      by true e (inl first) rest = inl first
      by true e (inr later) rest = inr (rest later)
      by false e (inl first) rest = absurd (both_ways (p y.0) e (sym (ap (λ (z : ℕ × Cell). p z.0) first) ∙ t))
      by false e (inr later) rest = rest later

  filter_rising : (xs : List (ℕ × Cell)) → Rising xs → Rising (filter (at_word p) xs)
  filter_rising [] up = tt
  filter_rising (x ∷ xs) up = by (p x.0) (filter_rising xs up.1)
    where
      low : AllByRecursion (λ (y : ℕ × Cell). x.0 < y.0) (filter (at_word p) xs)
      low =
          each_map (λ (y : ℕ × Cell). (x.0 < y.0) × (p y.0 ≡ true)) (λ (y : ℕ × Cell). x.0 < y.0) (λ y h. h.0) (filter (at_word p) xs)
          (each_filter (at_word p) (λ (y : ℕ × Cell). x.0 < y.0) xs up.0)

      by : (b : Bool) → Rising (filter (at_word p) xs) → Rising (cond b (x ∷ filter (at_word p) xs) (filter (at_word p) xs))
      by true rest = (low, rest)
      by false rest = rest

  pub same_there : (xs ys : List (ℕ × Cell)) → Rising xs → Rising ys → Passing (λ w. p w ≡ true) xs ys → Passing (λ w. p w ≡ true) ys xs → filter (at_word p) xs ≡ filter (at_word p) ys
  same_there xs ys up rising there back =
      same_rising (filter (at_word p) xs) (filter (at_word p) ys) (filter_rising xs up) (filter_rising ys rising)
      (λ x is. let h = filter_in x xs is in in_filter x ys (there x.0 x.1 h.1 h.0) h.1)
      (λ x is. let h = filter_in x ys is in in_filter x xs (back x.0 x.1 h.1 h.0) h.1)
