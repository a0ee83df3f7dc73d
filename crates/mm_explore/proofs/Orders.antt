-- The order of schedules: it is a strict total order, it is well-founded, and what it is to one item more.
use Rattle.std.proofs.Common.{◌≡◌, ◌⊎◌, inl, inr, ℕ, zero, suc, ◌<◌, List, [], ◌∷◌, ◌++◌, length, refl, sym, ap, ◌∙◌}
use Rattle.std.proofs.Common.{subst, arith, length-append}
use Rattle.mm_explore.specs.{Schedules.{IsLess, Before}, Searching.UpTo}

-- 1. Numbers.

-- the order of two numbers
pub numbers : (a b : ℕ) → (a < b) ⊎ ((a ≡ b) ⊎ (b < a))
numbers zero zero = inr (inl refl)
numbers zero (suc b) = inl (omega arith)
numbers (suc a) zero = inr (inr (omega arith))
numbers (suc a) (suc b) = elim (numbers a b) [
  | inl lt ↦ inl (omega (arith, lt))
  | inr other ↦ elim other [
    | inl e ↦ inr (inl (ap suc e))
    | inr gt ↦ inr (inr (omega (arith, gt)))
  ]
]

module _ (P : ℕ → Type 0) (step : (n : ℕ) → ((k : ℕ) → k < n → P k) → P n) where
  below : (n k : ℕ) → k < n → P k
  below zero k lt = absurd (omega (arith, lt))
  below (suc n) k lt = step k (λ j less. below n j (omega (arith, lt, less)))

  pub number_rec : (n : ℕ) → P n
  number_rec n = step n (below n)

-- 2. The lesser of two schedules of one length.

pub less_self : (s : List ℕ) → IsLess s s → ⊥
less_self [] h = h
less_self (a ∷ s) (inl lt) = absurd (omega (arith, lt))
less_self (a ∷ s) (inr h) = less_self s h.1

pub less_through : (s t u : List ℕ) → IsLess s t → IsLess t u → IsLess s u
less_through [] t u h k = absurd h
less_through (a ∷ s) [] u h k = absurd h
less_through (a ∷ s) (b ∷ t) [] h k = absurd k
less_through (a ∷ s) (b ∷ t) (c ∷ u) (inl lt) (inl more) = inl (omega (arith, lt, more))
less_through (a ∷ s) (b ∷ t) (c ∷ u) (inl lt) (inr k) = let e = k.0 in inl (omega (arith, lt, e))
less_through (a ∷ s) (b ∷ t) (c ∷ u) (inr h) (inl lt) = let e = h.0 in inl (omega (arith, lt, e))
less_through (a ∷ s) (b ∷ t) (c ∷ u) (inr h) (inr k) = inr (h.0 ∙ k.0, less_through s t u h.1 k.1)

less_cases : (s t : List ℕ) → length s ≡ length t → IsLess s t ⊎ ((s ≡ t) ⊎ IsLess t s)
less_cases [] [] e = inr (inl refl)
less_cases [] (b ∷ t) e = absurd (omega (arith, e))
less_cases (a ∷ s) [] e = absurd (omega (arith, e))
less_cases (a ∷ s) (b ∷ t) e = elim (numbers a b) [
  | inl lt ↦ inl (inl lt)
  | inr other ↦ elim other [
    | inl same ↦ elim (less_cases s t (omega (arith, e))) [
      | inl less ↦ inl (inr (same, less))
      | inr rest ↦ elim rest [
        | inl equal ↦ inr (inl (ap (λ x. x ∷ s) same ∙ ap (λ l. b ∷ l) equal))
        | inr more ↦ inr (inr (inr (sym same, more)))
      ]
    ]
    | inr gt ↦ inr (inr (inl gt))
  ]
]

-- 3. Before.

pub before_self : (s : List ℕ) → Before s s → ⊥
before_self s (inl lt) = absurd (omega (arith, lt))
before_self s (inr h) = less_self s h.1

pub before_through : (s t u : List ℕ) → Before s t → Before t u → Before s u
before_through s t u (inl lt) (inl more) = inl (omega (arith, lt, more))
before_through s t u (inl lt) (inr k) = let e = k.0 in inl (omega (arith, lt, e))
before_through s t u (inr h) (inl lt) = let e = h.0 in inl (omega (arith, lt, e))
before_through s t u (inr h) (inr k) = inr (h.0 ∙ k.0, less_through s t u h.1 k.1)

pub before_cases : (s t : List ℕ) → Before s t ⊎ ((s ≡ t) ⊎ Before t s)
before_cases s t = elim (numbers (length s) (length t)) [
  | inl lt ↦ inl (inl lt)
  | inr other ↦ elim other [
    | inl e ↦ elim (less_cases s t e) [
      | inl less ↦ inl (inr (e, less))
      | inr rest ↦ elim rest [
        | inl equal ↦ inr (inl equal)
        | inr more ↦ inr (inr (inr (sym e, more)))
      ]
    ]
    | inr gt ↦ inr (inr (inl gt))
  ]
]

pub up_to_before : (s t u : List ℕ) → UpTo s t → Before t u → Before s u
up_to_before s t u (inl e) k = subst (λ x. Before x u) (sym e) k
up_to_before s t u (inr h) k = before_through s t u h k

pub before_up_to : (s t u : List ℕ) → Before s t → UpTo t u → Before s u
before_up_to s t u h (inl e) = subst (Before s) e h
before_up_to s t u h (inr k) = before_through s t u h k

pub up_to_through : (s t u : List ℕ) → UpTo s t → UpTo t u → UpTo s u
up_to_through s t u (inl e) k = subst (λ x. UpTo x u) (sym e) k
up_to_through s t u (inr h) k = inr (before_up_to s t u h k)

pub nothing_before : (s : List ℕ) → Before s [] → ⊥
nothing_before s (inl lt) = absurd (omega (arith, lt))
nothing_before [] (inr h) = h.1
nothing_before (a ∷ s) (inr h) = h.1

-- 4. One item more.

abbrev pub more : List ℕ → ℕ → List ℕ
more s x = s ++ x ∷ []

pub length_more : (s : List ℕ) (x : ℕ) → length (more s x) ≡ suc (length s)
length_more s x = let e = length-append s (x ∷ []) in omega (arith, e)

less_more : (s t : List ℕ) (x y : ℕ) → IsLess s t → IsLess (more s x) (more t y)
less_more [] t x y h = absurd h
less_more (a ∷ s) [] x y h = absurd h
less_more (a ∷ s) (b ∷ t) x y (inl lt) = inl lt
less_more (a ∷ s) (b ∷ t) x y (inr h) = inr (h.0, less_more s t x y h.1)

less_items : (s : List ℕ) (x y : ℕ) → x < y → IsLess (more s x) (more s y)
less_items [] x y lt = inl lt
less_items (a ∷ s) x y lt = inr (refl, less_items s x y lt)

less_back : (s t : List ℕ) (x y : ℕ) → length s ≡ length t → IsLess (more s x) (more t y) → IsLess s t ⊎ ((s ≡ t) × (x < y))
less_back [] [] x y e (inl lt) = inr (refl, lt)
less_back [] [] x y e (inr h) = absurd h.1
less_back [] (b ∷ t) x y e h = absurd (omega (arith, e))
less_back (a ∷ s) [] x y e h = absurd (omega (arith, e))
less_back (a ∷ s) (b ∷ t) x y e (inl lt) = inl (inl lt)
less_back (a ∷ s) (b ∷ t) x y e (inr h) = elim (less_back s t x y (omega (arith, e)) h.1) [
  | inl less ↦ inl (inr (h.0, less))
  | inr k ↦ inr (ap (λ z. z ∷ s) h.0 ∙ ap (λ l. b ∷ l) k.0, k.1)
]

pub before_more : (s : List ℕ) (x : ℕ) → Before s (more s x)
before_more s x = let e = length_more s x in inl (omega (arith, e))

pub before_both : (s t : List ℕ) (x y : ℕ) → Before s t → Before (more s x) (more t y)
before_both s t x y (inl lt) = let a = length_more s x in let b = length_more t y in inl (omega (arith, a, b, lt))
before_both s t x y (inr h) = let a = length_more s x in let b = length_more t y in let e = h.0 in inr (omega (arith, a, b, e), less_more s t x y h.1)

pub before_items : (s : List ℕ) (x y : ℕ) → x < y → Before (more s x) (more s y)
before_items s x y lt = let a = length_more s x in let b = length_more s y in inr (omega (arith, a, b), less_items s x y lt)

pub up_to_both : (s t : List ℕ) (x : ℕ) → UpTo s t → UpTo (more s x) (more t x)
up_to_both s t x (inl e) = inl (ap (λ l. more l x) e)
up_to_both s t x (inr h) = inr (before_both s t x x h)

pub before_back : (s t : List ℕ) (x y : ℕ) → Before (more s x) (more t y) → Before s t ⊎ ((s ≡ t) × (x < y))
before_back s t x y (inl lt) = let a = length_more s x in let b = length_more t y in inl (inl (omega (arith, a, b, lt)))
before_back s t x y (inr h) =
    let a = length_more s x in
    let b = length_more t y in
    let long = h.0 in
    let e : length s ≡ length t = omega (arith, a, b, long) in
    elim (less_back s t x y e h.1) [
      | inl less ↦ inl (inr (e, less))
      | inr k ↦ inr k
    ]

-- the schedules without their last items are in the same order, or the same
pub before_front : (s t : List ℕ) (x y : ℕ) → Before (more s x) (more t y) → UpTo s t
before_front s t x y h = elim (before_back s t x y h) [
  | inl before ↦ inr before
  | inr k ↦ inl k.0
]

-- 5. An induction over the schedules before.

module _ (P : List ℕ → Type 0) where
  abbrev Lesser : ℕ → Type 0
  Lesser n = (t : List ℕ) → length t ≡ n → ((s : List ℕ) → length s ≡ n → IsLess s t → P s) → P t

none_less : (s : List ℕ) → IsLess s [] → ⊥
none_less [] h = h
none_less (a ∷ s) h = h

-- the schedules that begin with an item and are as much longer as that
abbrev AtItem : (List ℕ → Type 0) → ℕ → ℕ → Type 0
AtItem P n b = (u : List ℕ) → length u ≡ n → P (b ∷ u)

lesser_items : (P : List ℕ → Type 0) (n b : ℕ) → ((k : ℕ) → k < b → AtItem P n k) → (v : List ℕ) → ((s : List ℕ) → length s ≡ n → IsLess s v → P (b ∷ s))
    → (s : List ℕ) → length s ≡ suc n → IsLess s (b ∷ v) → P s
lesser_items P n b lower v inner [] size less = absurd less
lesser_items P n b lower v inner (k ∷ s) size (inl lt) = lower k lt s (omega (arith, size))
lesser_items P n b lower v inner (k ∷ s) size (inr h) = subst (λ z. P (z ∷ s)) (sym h.0) (inner s (omega (arith, size)) h.1)

at_item : (P : List ℕ → Type 0) (n : ℕ) → Lesser P (suc n) → (b : ℕ) → ((k : ℕ) → k < b → AtItem P n k) → Lesser (λ v. P (b ∷ v)) n
at_item P n step b lower v same inner = step (b ∷ v) (ap suc same) (λ s size less. lesser_items P n b lower v inner s size less)

less_rec : (n : ℕ) (P : List ℕ → Type 0) → Lesser P n → (t : List ℕ) → length t ≡ n → P t
less_rec zero P step [] e = step [] e (λ s long less. absurd (none_less s less))
less_rec zero P step (a ∷ t) e = absurd (omega (arith, e))
less_rec (suc n) P step [] e = absurd (omega (arith, e))
less_rec (suc n) P step (a ∷ t) e = number_rec (AtItem P n) (λ b lower u long. less_rec n (λ v. P (b ∷ v)) (at_item P n step b lower) u long) a t (omega (arith, e))

module _ (P : List ℕ → Type 0) (step : (t : List ℕ) → ((s : List ℕ) → Before s t → P s) → P t) where
  abbrev OfLength : ℕ → Type 0
  OfLength n = (t : List ℕ) → length t ≡ n → P t

  of_length : (n : ℕ) → ((k : ℕ) → k < n → OfLength k) → OfLength n
  of_length n shorter = less_rec n P (λ t e lesser. step t (λ s before. by t e lesser s before))
    where
      by : (t : List ℕ) → length t ≡ n → ((s : List ℕ) → length s ≡ n → IsLess s t → P s) → (s : List ℕ) → Before s t → P s
      by t e lesser s (inl lt) = shorter (length s) (omega (arith, e, lt)) s refl
      by t e lesser s (inr h) = lesser s (h.0 ∙ e) h.1

  pub before_rec : (t : List ℕ) → P t
  before_rec t = number_rec OfLength of_length (length t) t refl
