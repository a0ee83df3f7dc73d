-- What a binary search learns at one place.
use Rattle.std.proofs.Common.{◌≡◌, ℕ, ◌+◌, ◌<◌, ◌≤◌, ◌⊎◌, inl, inr, List, length, sym, subst, arith}
use Rattle.std.proofs.lemmas.Bool.{cases_lt}
use Rattle.mm_seg.specs.Segments.{IsSet, segment_at, end_of}
-- names by which crates above know them
pub use Rattle.std.proofs.lemmas.Bool.{cases_lt as compare}

pub same_or_below : (n k : ℕ) → n < k + 1 → (n < k) ⊎ (n ≡ k)
same_or_below n k h = elim (cases_lt n k) [ inl lt ↦ inl lt | inr le ↦ inr (omega arith) ]

module _ (xs : List (ℕ × ℕ)) (s : IsSet xs) (mid a : ℕ) (small : mid < length xs) where
  pub ends_low : end_of (segment_at xs mid) ≤ a → (k : ℕ) → k < mid + 1 → end_of (segment_at xs k) ≤ a
  ends_low h k lt = elim (same_or_below k mid lt) [
    | inl less ↦ let up = s.rise k mid less small in omega arith
    | inr e ↦ subst (λ v. end_of (segment_at xs v) ≤ a) (sym e) h
  ]

  pub ends_high : a < end_of (segment_at xs mid) → (k : ℕ) → mid ≤ k → k < length xs → a < end_of (segment_at xs k)
  ends_high h k le lt = elim (same_or_below mid k (omega arith)) [
    | inl less ↦ let up = s.rise mid k less lt in omega arith
    | inr e ↦ subst (λ v. a < end_of (segment_at xs v)) e h
  ]

  pub begins_low : (segment_at xs mid).0 < a → (k : ℕ) → k < mid + 1 → (segment_at xs k).0 < a
  begins_low h k lt = elim (same_or_below k mid lt) [
    | inl less ↦ let up = s.rise k mid less small in omega arith
    | inr e ↦ subst (λ v. (segment_at xs v).0 < a) (sym e) h
  ]

  pub begins_high : a ≤ (segment_at xs mid).0 → (k : ℕ) → mid ≤ k → k < length xs → a ≤ (segment_at xs k).0
  begins_high h k le lt = elim (same_or_below mid k (omega arith)) [
    | inl less ↦ let up = s.rise mid k less lt in omega arith
    | inr e ↦ subst (λ v. a ≤ (segment_at xs v).0) e h
  ]
