-- The last and the least of numbers.
use Rattle.std.proofs.Common.{◌≡◌, inl, inr, ℕ, zero, suc, ◌+◌, ◌-◌, ◌<◌, ◌≤◌, min, List, [], ◌∷◌, ◌++◌, length, take, drop, Option, Some, None}
use Rattle.std.proofs.Common.{slice_index_or, refl, sym, ap, ◌∙◌, subst, arith, length-append}
use Rattle.std.proofs.lemmas.{Bool.cases_lt, List.{get_or_at, take_more, length-drop}}
use Rattle.std.proofs.lemmas.List.Elements.{Contains-push, Contains-push_cases, Contains-append_left}
use Rattle.std.specs.Prelude.{Contains, slice_range}
use Rattle.mm_span.proofs.Members.{none_in, in_first}
use Rattle.mm_endless.specs.Stages.{IsLeastOf, lesser_of}

least_cases : (xs : List ℕ) (a n m : ℕ) → Contains xs a → ((k : ℕ) → Contains xs k → a ≤ k) → m ≡ min a n → Contains (xs ++ n ∷ []) m × ((k : ℕ) → Contains (xs ++ n ∷ []) k → m ≤ k)
least_cases xs a n m inside least is = (
  elim (cases_lt a n) [
    | inl lt ↦ subst (Contains (xs ++ n ∷ [])) (let e : a ≡ m = omega (arith, lt, is) in e) (Contains-append_left xs (n ∷ []) a inside)
    | inr ge ↦ subst (Contains (xs ++ n ∷ [])) (let e : n ≡ m = omega (arith, ge, is) in e) (Contains-push xs n)
  ],
  λ k there. elim (Contains-push_cases xs n k there) [
    | inl was ↦ let le = least k was in omega (arith, le, is)
    | inr e ↦ omega (arith, e, is)
  ],
)

pub least_more : (xs : List ℕ) (n : ℕ) (o : Option ℕ) → IsLeastOf xs o → IsLeastOf (xs ++ n ∷ []) (Some (lesser_of o n))
least_more xs n None none = (
  Contains-push xs n,
  λ k there. elim (Contains-push_cases xs n k there) [
    | inl was ↦ absurd (none_in k (subst (λ l. Contains l k) none was))
    | inr e ↦ omega (arith, e)
  ],
)
least_more xs n (Some a) h = least_cases xs a n (min a n) h.0 h.1 refl

-- two lists that are the same have the same last element
pub same_last : (front : List ℕ) (v : ℕ) (rest : List ℕ) (w : ℕ) → front ++ v ∷ [] ≡ rest ++ w ∷ [] → v ≡ w
same_last front v rest w e =
    let a = length-append front (v ∷ []) in
    let b = length-append rest (w ∷ []) in
    let long = ap length e in
    let same : length rest ≡ length front = omega (arith, a, b, long) in
    sym (get_or_at front v [] 0 (length front) refl) ∙ ap (λ l. slice_index_or l (length front) 0) e ∙ get_or_at rest w [] 0 (length front) same

pub not_empty : (front : List ℕ) (v : ℕ) → [] ≡ front ++ v ∷ [] → ⊥
not_empty front v e = let long = ap length e in let a = length-append front (v ∷ []) in omega (arith, long, a)

pub record IsPushed (xs : List ℕ) : Type 0 where
  pub front : List ℕ
  pub last : ℕ
  pub is : xs ≡ front ++ last ∷ []

-- a list that is not empty has a last element
pub pushed : (xs : List ℕ) (v : ℕ) → Contains xs v → IsPushed xs
pushed [] v inside = absurd (none_in v inside)
pushed (x ∷ []) v inside = record { front = []; last = x; is = refl }
pushed (x ∷ y ∷ xs) v inside = let rest = pushed (y ∷ xs) y (in_first y xs) in record { front = x ∷ rest.front; last = rest.last; is = ap (λ l. x ∷ l) rest.is }

-- the elements from an index up to another, and one more
pub range_more : (xs : List ℕ) (from k : ℕ) → from ≤ k → k < length xs → slice_range xs from (k + 1) ≡ slice_range xs from k ++ slice_index_or xs k 0 ∷ []
range_more xs from k le lt =
    let long = length-drop from xs in
    ap (λ n. take n (drop from xs)) (let e : k + 1 - from ≡ (k - from) + 1 = omega (arith, le) in e)
    ∙ take_more (drop from xs) (k - from) 0 (omega (arith, long, le, lt))
    ∙ ap (λ x. take (k - from) (drop from xs) ++ x ∷ []) (drop_at_index from (k - from) xs ∙ ap (λ n. slice_index_or xs n 0) (let e : from + (k - from) ≡ k = omega (arith, le) in e))
  where
    drop_at_index : (n m : ℕ) (ys : List ℕ) → slice_index_or (drop n ys) m 0 ≡ slice_index_or ys (n + m) 0
    drop_at_index zero m ys = ap (λ j. slice_index_or ys j 0) (let e : m ≡ 0 + m = omega arith in e)
    drop_at_index (suc n) m [] = refl
    drop_at_index (suc n) m (y ∷ ys) = drop_at_index n m ys ∙ ap (λ j. slice_index_or (y ∷ ys) j 0) (let e : suc (n + m) ≡ suc n + m = omega arith in e)
