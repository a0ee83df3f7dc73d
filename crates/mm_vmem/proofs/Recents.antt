-- The buffer is the first entries of the distinct pages.
use Rattle.std.proofs.Common.{◌≡◌, ℕ, zero, suc, ◌==◌, Bool, true, false, if◌then◌else◌, List, [], ◌∷◌, take, refl, sym}
use Rattle.std.proofs.{Common.{ap, subst, ◌∙◌, inl, inr}, lemmas.Bool.{cases_eq, eq-eqb, ne_eqb}}
use Rattle.mm_model.specs.Counted.{has, without, distinct}
use Rattle.mm_vmem.specs.Stands.{IsDistinct}

-- what is not there is not there without another
not_in_rest : (x y : ℕ) (xs : List ℕ) → has x (y ∷ xs) ≡ false → has x xs ≡ false
not_in_rest x y xs h = by (x == y) h
  where
    by : (b : Bool) → (if b then true else has x xs) ≡ false → has x xs ≡ false
    by true h = cc
    by false h = h

head_without : (x y : ℕ) (xs zs : List ℕ) → has x zs ≡ false → has x (y ∷ xs) ≡ false → has x (y ∷ zs) ≡ false
head_without x y xs zs rest h = by (x == y) h
  where
    by : (b : Bool) → (if b then true else has x xs) ≡ false → (if b then true else has x zs) ≡ false
    by true h = cc
    by false h = rest

either_without : (x y : ℕ) (zs : List ℕ) (b : Bool) → has x zs ≡ false → has x (y ∷ zs) ≡ false → has x (if b then zs else y ∷ zs) ≡ false
either_without x y zs true rest both = rest
either_without x y zs false rest both = both

pub has_without : (x p : ℕ) (xs : List ℕ) → has x xs ≡ false → has x (without p xs) ≡ false
has_without x p [] h = refl
has_without x p (y ∷ ys) h =
    let rest : has x (without p ys) ≡ false = has_without x p ys (not_in_rest x y ys h) in
    either_without x y (without p ys) (p == y) rest (head_without x y ys (without p ys) rest h)

either_distinct : (x : ℕ) (zs : List ℕ) (b : Bool) → has x zs ≡ false → IsDistinct zs → IsDistinct (if b then zs else x ∷ zs)
either_distinct x zs true fresh d = d
either_distinct x zs false fresh d = (fresh, d)

pub distinct_without : (p : ℕ) (xs : List ℕ) → IsDistinct xs → IsDistinct (without p xs)
distinct_without p [] d = tt
distinct_without p (x ∷ xs) d = either_distinct x (without p xs) (p == x) (has_without x p xs d.0) (distinct_without p xs d.1)

pub gone : (p : ℕ) (xs : List ℕ) → has p (without p xs) ≡ false
gone p [] = refl
gone p (x ∷ xs) = elim (cases_eq p x) [
  | inl same ↦ subst (λ (b : Bool). has p (if b then without p xs else x ∷ without p xs) ≡ false) (sym (eq-eqb p x same)) (gone p xs)
  | inr other ↦ subst (λ (b : Bool). has p (if b then without p xs else x ∷ without p xs) ≡ false) (sym (ne_eqb p x other))
      (subst (λ (b : Bool). (if b then true else has p (without p xs)) ≡ false) (sym (ne_eqb p x other)) (gone p xs))
]

pub distinct_is : (xs : List ℕ) → IsDistinct (distinct xs)
distinct_is [] = tt
distinct_is (x ∷ xs) = (gone x (distinct xs), distinct_without x (distinct xs) (distinct_is xs))

nothing_gone : (p x : ℕ) (xs : List ℕ) (b : Bool) → without p xs ≡ xs → (if b then true else has p xs) ≡ false → (if b then without p xs else x ∷ without p xs) ≡ x ∷ xs
nothing_gone p x xs true rest h = cc
nothing_gone p x xs false rest h = ap (λ (ys : List ℕ). x ∷ ys) rest

pub nothing_without : (p : ℕ) (xs : List ℕ) → has p xs ≡ false → without p xs ≡ xs
nothing_without p [] h = refl
nothing_without p (x ∷ xs) h = nothing_gone p x xs (p == x) (nothing_without p xs (not_in_rest p x xs h)) h

pub take_take : (n : ℕ) (xs : List ℕ) → take n (take n xs) ≡ take n xs
take_take zero xs = refl
take_take (suc n) [] = refl
take_take (suc n) (x ∷ xs) = ap (λ (ys : List ℕ). x ∷ ys) (take_take n xs)

pub has_take : (x n : ℕ) (xs : List ℕ) → has x xs ≡ false → has x (take n xs) ≡ false
has_take x zero xs h = refl
has_take x (suc n) [] h = refl
has_take x (suc n) (y ∷ ys) h = head_without x y ys (take n ys) (has_take x n ys (not_in_rest x y ys h)) h

-- one entry goes: the first n of the rest are among the first n + 1
pub without_take : (p n : ℕ) (xs : List ℕ) → IsDistinct xs → take n (without p (take (suc n) xs)) ≡ take n (without p xs)
without_take p n [] d = refl
without_take p zero (x ∷ xs) d = refl
without_take p (suc n) (x ∷ xs) d = elim (cases_eq p x) [
  | inl same ↦
      let fresh : has p xs ≡ false = subst (λ (y : ℕ). has y xs ≡ false) (sym same) d.0 in
      subst (λ (b : Bool). take (suc n) (if b then without p (take (suc n) xs) else x ∷ without p (take (suc n) xs)) ≡ take (suc n) (if b then without p xs else x ∷ without p xs))
      (sym (eq-eqb p x same))
      (ap (λ (ys : List ℕ). take (suc n) ys) (nothing_without p (take (suc n) xs) (has_take p (suc n) xs fresh)) ∙ take_take (suc n) xs
      ∙ ap (λ (ys : List ℕ). take (suc n) ys) (sym (nothing_without p xs fresh)))
  | inr other ↦
      subst (λ (b : Bool). take (suc n) (if b then without p (take (suc n) xs) else x ∷ without p (take (suc n) xs)) ≡ take (suc n) (if b then without p xs else x ∷ without p xs))
      (sym (ne_eqb p x other))
      (ap (λ (ys : List ℕ). x ∷ ys) (without_take p n xs d.1))
]

-- the buffer of 16 moves as the whole list does
pub move_first : (p : ℕ) (xs : List ℕ) → take 16 (p ∷ without p (take 16 (distinct xs))) ≡ take 16 (distinct (p ∷ xs))
move_first p xs = ap (λ (ys : List ℕ). p ∷ ys) (without_take p 15 (distinct xs) (distinct_is xs))

pub distinct_take : (n : ℕ) (xs : List ℕ) → IsDistinct xs → IsDistinct (take n xs)
distinct_take zero xs d = tt
distinct_take (suc n) [] d = tt
distinct_take (suc n) (x ∷ xs) d = (has_take x n xs d.0, distinct_take n xs d.1)

pub distinct_moved : (p : ℕ) (xs : List ℕ) → IsDistinct xs → IsDistinct (take 16 (p ∷ without p xs))
distinct_moved p xs d = (has_take p 15 (without p xs) (gone p xs), distinct_take 15 (without p xs) (distinct_without p xs d))
