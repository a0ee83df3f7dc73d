-- The least address of two sets.
use Rattle.std.proofs.Common.{ℕ, ◌+◌, ◌<◌, ◌≤◌, ◌⊎◌, inl, inr, List, length, sym, subst, arith, pow_pos}
use Rattle.std.proofs.lemmas.Bool.{cases_lt}
use Rattle.mm_seg.specs.Segments.{IsSet, EndsBy, segment_at, end_of, At, Covered, IsLeast, AreApart}
use Rattle.mm_seg.proofs.Searches.{same_or_below}

pub covered_by : (xs : List (ℕ × ℕ)) (a i : ℕ) → EndsBy xs a i → i < length xs → (segment_at xs i).0 ≤ a → Covered xs a
covered_by xs a i e lt h = record { by = i; at = (lt, h, e.after i (omega arith) lt) }

pub covered_from : (xs : List (ℕ × ℕ)) (a i : ℕ) → IsSet xs → EndsBy xs a i → i < length xs → Covered xs a → (segment_at xs i).0 ≤ a
covered_from xs a i set e lt c = elim (cases_lt c.by i) [
  | inl less ↦ let past = e.before c.by less in let low = c.at.2 in absurd (omega arith)
  | inr ge ↦ elim (same_or_below i c.by (omega arith)) [
    | inl less ↦ let up = set.rise i c.by less c.at.0 in let low = c.at.1 in omega arith
    | inr same ↦ subst (λ v. (segment_at xs v).0 ≤ a) (sym same) c.at.1
  ]
]

bases_rise : (xs : List (ℕ × ℕ)) (i p : ℕ) → IsSet xs → i ≤ p → p < length xs → (segment_at xs i).0 ≤ (segment_at xs p).0
bases_rise xs i p set le lt = elim (same_or_below i p (omega arith)) [
  | inl less ↦ let up = set.rise i p less lt in omega arith
  | inr same ↦ subst (λ v. (segment_at xs v).0 ≤ (segment_at xs p).0) (sym same) (omega arith)
]

module _ (xs ys : List (ℕ × ℕ)) (left : IsSet xs) (right : IsSet ys) (i j : ℕ) (li : i < length xs) (lj : j < length ys) (inv : (p q a : ℕ) → At xs p a → At ys q a → (i ≤ p) × (j ≤ q)) where
  pub least_here : (r : ℕ) → (segment_at xs i).0 ≤ r → (segment_at ys j).0 ≤ r → (r ≤ (segment_at xs i).0) ⊎
      (r ≤ (segment_at ys j).0) → r < end_of (segment_at xs i) → r < end_of (segment_at ys j) → IsLeast xs ys r
  least_here r a b one c d = record {
    left = record { by = i; at = (li, a, c) };
    right = record { by = j; at = (lj, b, d) };
    least = λ v less x y.
        let from = inv x.by y.by v x.at y.at in
        let up = bases_rise xs i x.by left from.0 x.at.0 in
        let up2 = bases_rise ys j y.by right from.1 y.at.0 in
        let lx = x.at.1 in
        let ly = y.at.1 in
        elim one [ inl z ↦ omega arith | inr z ↦ omega arith ];
  }

  module _ (off : (end_of (segment_at ys j) ≤ (segment_at xs i).0) ⊎ (end_of (segment_at xs i) ≤ (segment_at ys j).0)) where
    apart_here : (a : ℕ) → At xs i a → At ys j a → ⊥
    apart_here a x y = elim off [
      | inl z ↦ let lx = x.1 in let hy = y.2 in omega arith
      | inr z ↦ let ly = y.1 in let hx = x.2 in omega arith
    ]

    pub pass_left : end_of (segment_at xs i) ≤ end_of (segment_at ys j) → (p q a : ℕ) → At xs p a → At ys q a → (i + 1 ≤ p) × (j ≤ q)
    pass_left le p q a x y =
        let from = inv p q a x y in
        elim (same_or_below i p (let f = from.0 in omega arith)) [
          | inl less ↦ (omega arith, from.1)
          | inr same ↦
              let at_i = subst (λ v. At xs v a) (sym same) x in
              elim (same_or_below j q (let f = from.1 in omega arith)) [
                | inl less ↦ let up = right.rise j q less y.0 in let ly = y.1 in let hx = at_i.2 in absurd (omega arith)
                | inr same2 ↦ absurd (apart_here a at_i (subst (λ v. At ys v a) (sym same2) y))
              ]
        ]

    pub pass_right : end_of (segment_at ys j) ≤ end_of (segment_at xs i) → (p q a : ℕ) → At xs p a → At ys q a → (i ≤ p) × (j + 1 ≤ q)
    pass_right le p q a x y =
        let from = inv p q a x y in
        elim (same_or_below j q (let f = from.1 in omega arith)) [
          | inl less ↦ (from.0, omega arith)
          | inr same ↦
              let at_j = subst (λ v. At ys v a) (sym same) y in
              elim (same_or_below i p (let f = from.0 in omega arith)) [
                | inl less ↦ let up = left.rise i p less x.0 in let lx = x.1 in let hy = at_j.2 in absurd (omega arith)
                | inr same2 ↦ absurd (apart_here a (subst (λ v. At xs v a) (sym same2) x) at_j)
              ]
        ]

pub none_left : (xs ys : List (ℕ × ℕ)) (i j : ℕ) → ((p q a : ℕ) → At xs p a → At ys q a → (i ≤ p) × (j ≤ q)) → (length xs ≤ i) ⊎ (length ys ≤ j) → AreApart xs ys
none_left xs ys i j inv e a x y =
    let from = inv x.by y.by a x.at y.at in
    let lx = x.at.0 in
    let ly = y.at.0 in
    let f0 = from.0 in
    let f1 = from.1 in
    elim e [ inl z ↦ omega arith | inr z ↦ omega arith ]

pub some_in : (s : ℕ × ℕ) → s.0 < end_of s
some_in s = let pos = pow_pos s.1 in omega arith
