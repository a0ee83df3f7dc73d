-- Lists as loops go over them: numbers that rise, and what holds of each element.
use Rattle.std.proofs.Common.{◌≡◌, ℕ, zero, suc, ◌+◌, ◌-◌, ◌<◌, ◌≤◌, List, [], ◌∷◌, length, get_or, map, take, sym, ap}
use Rattle.std.proofs.Common.{subst, ◌∙◌, arith, inl, inr}
use Rattle.std.proofs.lemmas.{Bool.cases_lt, List.{get_or-map, length-map, take_more}}
use Rattle.std.specs.List.{AllByRecursion, Sorted.IsStrictlyIncreasing}
use Rattle.mm_model.proofs.CoreRows.{each_push}
use Rattle.mm_machine.specs.Snapshot.{DoesNotFall}

-- the numbers so far rise, or do not fall
abbrev pub RiseBelow : List ℕ → ℕ → Type 0
RiseBelow xs k = (j : ℕ) → j + 1 < k → get_or xs j 0 < get_or xs (j + 1) 0

abbrev pub NoneFallsBelow : List ℕ → ℕ → Type 0
NoneFallsBelow xs k = (j : ℕ) → j + 1 < k → get_or xs j 0 ≤ get_or xs (j + 1) 0

-- the number of an element
pub number_at : {A : Type 0} (f : A → ℕ) (xs : List A) (k : ℕ) (x : A) → x ≡ get_or xs k x → k < length xs → get_or (map f xs) k 0 ≡ f x
number_at f xs k x is lt = get_or-map f xs k x 0 lt ∙ ap f (sym is)

module _ {A : Type 0} (f : A → ℕ) (xs : List A) (k : ℕ) (x y : A) (one : 1 ≤ k) (lt : k < length xs) (is_x : x ≡ get_or xs (k - 1) x) (is_y : y ≡ get_or xs k y) where
  before : get_or (map f xs) (k - 1) 0 ≡ f x
  before = number_at f xs (k - 1) x is_x (omega arith)

  here : get_or (map f xs) k 0 ≡ f y
  here = number_at f xs k y is_y lt

  pub rise_more : RiseBelow (map f xs) k → f x < f y → RiseBelow (map f xs) (k + 1)
  rise_more so_far above j small =
      elim (cases_lt (j + 1) k) [
        | inl earlier ↦ so_far j earlier
        | inr last ↦
            let place : j + 1 ≡ k = omega arith in
            let place_before : j ≡ k - 1 = omega arith in
            let a : get_or (map f xs) j 0 ≡ f x = ap (λ n. get_or (map f xs) n 0) place_before ∙ before in
            let b : get_or (map f xs) (j + 1) 0 ≡ f y = ap (λ n. get_or (map f xs) n 0) place ∙ here in
            omega (arith, a, b, above)
      ]

  pub rise_not : f y ≤ f x → IsStrictlyIncreasing (map f xs) → ⊥
  rise_not low rising =
      let next : k - 1 + 1 ≡ k = omega arith in
      let b : get_or (map f xs) (k - 1 + 1) 0 ≡ f y = ap (λ n. get_or (map f xs) n 0) next ∙ here in
      let up = rising (k - 1) (omega (arith, length-map xs f)) in
      omega (arith, before, b, up, low)

  pub falls_not_more : NoneFallsBelow (map f xs) k → f x ≤ f y → NoneFallsBelow (map f xs) (k + 1)
  falls_not_more so_far above j small =
      elim (cases_lt (j + 1) k) [
        | inl earlier ↦ so_far j earlier
        | inr last ↦
            let place : j + 1 ≡ k = omega arith in
            let place_before : j ≡ k - 1 = omega arith in
            let a : get_or (map f xs) j 0 ≡ f x = ap (λ n. get_or (map f xs) n 0) place_before ∙ before in
            let b : get_or (map f xs) (j + 1) 0 ≡ f y = ap (λ n. get_or (map f xs) n 0) place ∙ here in
            omega (arith, a, b, above)
      ]

  pub falls : f y < f x → DoesNotFall (map f xs) → ⊥
  falls low rising =
      let next : k - 1 + 1 ≡ k = omega arith in
      let b : get_or (map f xs) (k - 1 + 1) 0 ≡ f y = ap (λ n. get_or (map f xs) n 0) next ∙ here in
      let up = rising (k - 1) (omega (arith, length-map xs f)) in
      omega (arith, before, b, up, low)

pub all_at : {A : Type 0} (P : A → Type 0) (xs : List A) (i : ℕ) (x : A) → AllByRecursion P xs → i < length xs → x ≡ get_or xs i x → P x
all_at P [] i x h lt is = absurd (omega arith)
all_at P (y ∷ xs) zero x h lt is = subst P (sym is) h.0
all_at P (y ∷ xs) (suc i) x h lt is = all_at P xs i x h.1 (omega arith) is

pub all_more : {A : Type 0} (P : A → Type 0) (xs : List A) (i : ℕ) (x : A) → AllByRecursion P (take i xs) → i < length xs → x ≡ get_or xs i x → P x → AllByRecursion P (take (i + 1) xs)
all_more P xs i x h lt is k = subst (AllByRecursion P) (sym (take_more xs i x lt)) (each_push P (take i xs) (get_or xs i x) h (subst P is k))
