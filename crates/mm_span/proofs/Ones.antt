-- The longest runs of the words for which something holds are determined.
use Rattle.std.proofs.Common.{◌≡◌, ◌⊎◌, inl, inr, ℕ, zero, suc, ◌<◌, ◌≤◌, List, [], ◌∷◌, refl, sym, ap, ◌∙◌, subst, arith}
use Rattle.std.specs.{List.AllByRecursion}
use Rattle.mm_span.specs.{Spans.{Span, word_in, IsApart, AreSpans}}
use Rattle.mm_span.proofs.Members.{none_in, in_cases, all_at}

-- the order of two numbers
numbers : (a b : ℕ) → (a < b) ⊎ ((a ≡ b) ⊎ (b < a))
numbers zero zero = inr (inl refl)
numbers zero (suc b) = inl (omega arith)
numbers (suc a) zero = inr (inr (omega arith))
numbers (suc a) (suc b) = elim (numbers a b) [
  | inl lt ↦ inl (omega (arith, lt))
  | inr other ↦ elim other [
    | inl e ↦ inr (inl (ap suc e))
    | inr gt ↦ inr (inr (omega (arith, gt)))
  ]
]

-- the first word of the first run is the least
least_word : (P : ℕ → Type 0) (r : Span) (rs : List Span) → AreSpans P (r ∷ rs) → (w : ℕ) → P w → r.first ≤ w
least_word P r rs k w h =
    let one = k.each w h in
    let at = one.2.at in
    elim (in_cases r rs one.0 one.1) [
      | inl e ↦ let f : r.first ≡ one.0.first = ap (λ (s : Span). s.first) e in omega (arith, f, at)
      | inr later ↦ let apart : IsApart r one.0 = all_at (IsApart r) rs one.0 k.apart.0 later in omega (arith, apart, at)
    ]

-- no word after the first run holds, up to the next
not_behind : (P : ℕ → Type 0) (r : Span) (rs : List Span) → AreSpans P (r ∷ rs) → P (word_in r r.count) → ⊥
not_behind P r rs k h =
    let one = k.each (word_in r r.count) h in
    let at = one.2.at in
    let lt = one.2.within in
    elim (in_cases r rs one.0 one.1) [
      | inl e ↦
          let f : r.first ≡ one.0.first = ap (λ (s : Span). s.first) e in
          let c : r.count ≡ one.0.count = ap (λ (s : Span). s.count) e in
          omega (arith, f, c, at, lt)
      | inr later ↦ let apart : IsApart r one.0 = all_at (IsApart r) rs one.0 k.apart.0 later in omega (arith, apart, at)
    ]

no_longer : (P : ℕ → Type 0) (s r : Span) (ss rs : List Span) → AreSpans P (s ∷ ss) → AreSpans P (r ∷ rs) → s.first ≡ r.first → s.count < r.count → ⊥
no_longer P s r ss rs k m e lt =
    let here : word_in r s.count ≡ word_in s s.count = omega (arith, e) in
    not_behind P s ss k (subst P here (m.only.0 s.count lt))

same_count : (P : ℕ → Type 0) (s r : Span) (ss rs : List Span) → AreSpans P (s ∷ ss) → AreSpans P (r ∷ rs) → s.first ≡ r.first → s.count ≡ r.count
same_count P s r ss rs k m e = elim (numbers s.count r.count) [
  | inl lt ↦ absurd (no_longer P s r ss rs k m e lt)
  | inr other ↦ elim other [
    | inl same ↦ same
    | inr gt ↦ absurd (no_longer P r s rs ss m k (sym e) gt)
  ]
]

abbrev Behind : (ℕ → Type 0) → Span → ℕ → Type 0
Behind P s w = P w × (word_in s s.count < w)

only_behind : (P : ℕ → Type 0) (s : Span) (ss : List Span) → AllByRecursion (λ (r : Span). (k : ℕ) → k < r.count → P (word_in r k)) ss → AllByRecursion (IsApart s) ss
    → AllByRecursion (λ (r : Span). (k : ℕ) → k < r.count → Behind P s (word_in r k)) ss
only_behind P s [] h apart = tt
only_behind P s (r ∷ ss) h apart = (λ k lt. (h.0 k lt, let far : IsApart s r = apart.0 in omega (arith, far)), only_behind P s ss h.1 apart.1)

tail_spans : (P : ℕ → Type 0) (s : Span) (ss : List Span) → AreSpans P (s ∷ ss) → AreSpans (Behind P s) ss
tail_spans P s ss k = record {
  some = k.some.1;
  apart = k.apart.1;
  only = only_behind P s ss k.only.1 k.apart.0;
  each = λ w h.
      let one = k.each w h.0 in
      let at = one.2.at in
      let lt = one.2.within in
      elim (in_cases s ss one.0 one.1) [
        | inl e ↦
            let f : s.first ≡ one.0.first = ap (λ (r : Span). r.first) e in
            let c : s.count ≡ one.0.count = ap (λ (r : Span). r.count) e in
            let behind = h.1 in
            absurd (omega (arith, f, c, at, lt, behind))
        | inr later ↦ (one.0, later, one.2)
      ];
}

none_spans : (P : ℕ → Type 0) (r : Span) (rs : List Span) → AreSpans P [] → AreSpans P (r ∷ rs) → ⊥
none_spans P r rs k m = let one = k.each (word_in r 0) (m.only.0 0 m.some.0) in none_in one.0 one.1

first_word : (P : ℕ → Type 0) (r : Span) (rs : List Span) → AreSpans P (r ∷ rs) → P r.first
first_word P r rs k = let at : word_in r 0 ≡ r.first = omega arith in subst P at (k.only.0 0 k.some.0)

pub spans_one : (P : ℕ → Type 0) (a b : List Span) → AreSpans P a → AreSpans P b → a ≡ b
spans_one P [] [] k m = refl
spans_one P [] (r ∷ b) k m = absurd (none_spans P r b k m)
spans_one P (s ∷ a) [] k m = absurd (none_spans P s a m k)
spans_one P (s ∷ a) (r ∷ b) k m =
    let low = least_word P s a k r.first (first_word P r b m) in
    let high = least_word P r b m s.first (first_word P s a k) in
    let first : s.first ≡ r.first = omega (arith, low, high) in
    let count : s.count ≡ r.count = same_count P s r a b k m first in
    let same : r ≡ s = λ j. record { first = sym first j; count = sym count j } in
    let rest = spans_one (Behind P s) a b (tail_spans P s a k) (tail_spans P s b (subst (λ z. AreSpans P (z ∷ b)) same m)) in
    ap (λ l. s ∷ l) rest ∙ ap (λ z. z ∷ b) (sym same)
