-- Lists in which each element stands before the next, as loops test it.
use Rattle.std.proofs.Common.{◌≡◌, ℕ, zero, suc, ◌+◌, ◌-◌, ◌<◌, ◌≤◌, true, false, List, [], ◌∷◌, length, get_or, map}
use Rattle.std.proofs.Common.{refl, sym, ap, ◌∙◌, arith, inl, inr}
use Rattle.std.proofs.lemmas.{Bool.{cases_lt, and_parts, and_from, false_from_ne_true}, List.{get_or-map, length-map}}
use Rattle.std.specs.List.Sorted.{IsStrictlyIncreasing}
use Rattle.mm_object.specs.{Names.is_before, Objects.ascend}

-- 1. Numbers.

-- the numbers so far
abbrev pub AscendBelow : List ℕ → ℕ → Type 0
AscendBelow keys k = (j : ℕ) → j + 1 < k → get_or keys j 0 < get_or keys (j + 1) 0

module _ {A : Type 0} (f : A → ℕ) (xs : List A) (k a b : ℕ) (d e : A) (one : 1 ≤ k) (lt : k < length xs) (is_before : a ≡ f (get_or xs (k - 1) d)) (is_this : b ≡ f (get_or xs k e)) where
  before_key : get_or (map f xs) (k - 1) 0 ≡ a
  before_key = get_or-map f xs (k - 1) d 0 (omega arith) ∙ sym is_before

  this_key : get_or (map f xs) k 0 ≡ b
  this_key = get_or-map f xs k e 0 lt ∙ sym is_this

  pub keys_go_on : a < b → AscendBelow (map f xs) k → AscendBelow (map f xs) (k + 1)
  keys_go_on above so_far j small =
      elim (cases_lt (j + 1) k) [
        | inl earlier ↦ so_far j earlier
        | inr last ↦
            let place : j + 1 ≡ k = omega arith in
            let place_before : j ≡ k - 1 = omega arith in
            let p : get_or (map f xs) j 0 ≡ a = ap (λ n. get_or (map f xs) n 0) place_before ∙ before_key in
            let q : get_or (map f xs) (j + 1) 0 ≡ b = ap (λ n. get_or (map f xs) n 0) place ∙ this_key in
            omega (arith, p, q, above)
      ]

  pub keys_fall : b ≤ a → IsStrictlyIncreasing (map f xs) → false ≡ true
  keys_fall low rising =
      let next : k - 1 + 1 ≡ k = omega arith in
      let q : get_or (map f xs) (k - 1 + 1) 0 ≡ b = ap (λ n. get_or (map f xs) n 0) next ∙ this_key in
      let up = rising (k - 1) (omega (arith, length-map xs f)) in
      absurd (omega (arith, before_key, q, up, low))

-- 2. Names.

-- the names so far
abbrev pub NamesAscendBelow : List (List ℕ) → ℕ → Type 0
NamesAscendBelow names k = (j : ℕ) → j + 1 < k → is_before (get_or names j []) (get_or names (j + 1) []) ≡ true

pub ascend-at : (names : List (List ℕ)) → ascend names ≡ true → (k : ℕ) → k + 1 < length names → is_before (get_or names k []) (get_or names (k + 1) []) ≡ true
ascend-at [] h k lt = absurd (omega arith)
ascend-at (a ∷ []) h k lt = absurd (omega arith)
ascend-at (a ∷ b ∷ names) h zero lt = (and_parts _ _ h).0
ascend-at (a ∷ b ∷ names) h (suc k) lt =
    let next : suc k + 1 ≡ suc (k + 1) = omega arith in
    rw next (ascend-at (b ∷ names) (and_parts (is_before a b) (ascend (b ∷ names)) h).1 k (omega arith))

pub ascend-from : (names : List (List ℕ)) → ((k : ℕ) → k + 1 < length names → is_before (get_or names k []) (get_or names (k + 1) []) ≡ true) → ascend names ≡ true
ascend-from [] h = refl
ascend-from (a ∷ []) h = refl
ascend-from (a ∷ b ∷ names) h = and_from _ _ (h 0 (omega arith)) (ascend-from (b ∷ names) (λ k lt.
    let next : suc k + 1 ≡ suc (k + 1) = omega arith in
    let here : is_before (get_or (a ∷ b ∷ names) (suc k) []) (get_or (a ∷ b ∷ names) (suc k + 1) []) ≡ true = h (suc k) (omega arith) in
    rw next at here))

pub names_go_on : (names : List (List ℕ)) (k : ℕ) → 1 ≤ k → is_before (get_or names (k - 1) []) (get_or names k []) ≡ true → NamesAscendBelow names k → NamesAscendBelow names (k + 1)
names_go_on names k one this so_far j small =
    elim (cases_lt (j + 1) k) [
      | inl earlier ↦ so_far j earlier
      | inr last ↦
          let place : j + 1 ≡ k = omega arith in
          let place_before : j ≡ k - 1 = omega arith in
          ap (λ n. is_before (get_or names n []) (get_or names (j + 1) [])) place_before ∙ ap (λ n. is_before (get_or names (k - 1) []) (get_or names n [])) place ∙ this
    ]

pub names_fall : (names : List (List ℕ)) (k : ℕ) → 1 ≤ k → k < length names → is_before (get_or names (k - 1) []) (get_or names k []) ≡ false → false ≡ ascend names
names_fall names k one lt this = sym (false_from_ne_true (ascend names) (λ h.
    let next : k - 1 + 1 ≡ k = omega arith in
    let up = ascend-at names h (k - 1) (omega arith) in
    let here : is_before (get_or names (k - 1) []) (get_or names k []) ≡ true = sym (ap (λ n. is_before (get_or names (k - 1) []) (get_or names n [])) next) ∙ up in
    absurd (cc (here, this))))

pub names_end : (names : List (List ℕ)) (k : ℕ) → NamesAscendBelow names k → length names ≤ k → true ≡ ascend names
names_end names k so_far le = sym (ascend-from names (λ j lt. so_far j (omega arith)))
