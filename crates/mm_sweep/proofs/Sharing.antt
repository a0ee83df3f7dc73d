-- A pointer's segment meets a range exactly where they share an address.
use Rattle.std.proofs.Common.{◌≡◌, ℕ, ◌+◌, ◌-◌, ◌*◌, ◌/◌, ◌%◌, ◌^◌, ◌<◌, ◌≤◌, ◌↔◌, inl, inr, true, false, nat_lt, sym}
use Rattle.std.proofs.Common.{ap, ◌∙◌, subst, arith}
use Rattle.std.proofs.lemmas.Bool.{and_parts, and_from, cases_lt, both_ways, false_from_ne_true, ltb-true, lt-ltb}
use Rattle.std.proofs.lemmas.{Bool.Decides.nat_tests, Nat.{pow_pos, shr_split, shr_high, mod_below}}
use Rattle.mm_word.specs.Pointer.{Pointer, InSegment, Covers, base_of}
use Rattle.mm_seg.specs.Segments.{end_of}
use Rattle.mm_sweep.specs.{Swept.{InRange, meets}, Laws.SharesAddress}

-- the addresses of a segment are those from its base on, as many as it has bytes

low_of : (k a b : ℕ) → a / 2 ^ k ≡ b / 2 ^ k → b / 2 ^ k * 2 ^ k ≤ a
low_of k a b e = let split : b / 2 ^ k * 2 ^ k + a % 2 ^ k ≡ a = rw e at (shr_split a k) in omega arith

high_of : (k a b : ℕ) → a / 2 ^ k ≡ b / 2 ^ k → a < b / 2 ^ k * 2 ^ k + 2 ^ k
high_of k a b e =
    let split : b / 2 ^ k * 2 ^ k + a % 2 ^ k ≡ a = rw e at (shr_split a k) in
    let near : a % 2 ^ k < 2 ^ k = mod_below a (2 ^ k) (pow_pos k) in
    omega arith

between : (k a b : ℕ) → b / 2 ^ k * 2 ^ k ≤ a → a < b / 2 ^ k * 2 ^ k + 2 ^ k → a / 2 ^ k ≡ b / 2 ^ k
between k a b low high =
    let behind : ℕ = a - b / 2 ^ k * 2 ^ k in
    let same : b / 2 ^ k * 2 ^ k + behind ≡ a = omega arith in
    let short : behind < 2 ^ k = omega arith in
    ap (λ n. n / 2 ^ k) (sym same) ∙ shr_high (b / 2 ^ k) k behind short

module _ (range : ℕ × ℕ) where
  -- the later one of the two bases lies in both
  shared : (p : Pointer) → base_of p < end_of range → range.0 < end_of (base_of p, p.log) → SharesAddress range p
  shared p low high = elim (cases_lt (base_of p) range.0) [
    | inl before ↦ record { address = range.0; in_segment = between p.log range.0 p.addr (omega arith) high; in_range = (omega arith, omega (arith, pow_pos range.1)) }
    | inr after ↦ record { address = base_of p; in_segment = between p.log (base_of p) p.addr (omega arith) (omega (arith, pow_pos p.log)); in_range = (after, low) }
  ]

  pub shares : (p : Pointer) → meets range p ≡ true → SharesAddress range p
  shares p t =
      let both = and_parts (nat_lt (base_of p) (end_of range)) (nat_lt range.0 (end_of (base_of p, p.log))) t in
      shared p (ltb-true (base_of p) (end_of range) both.0) (ltb-true range.0 (end_of (base_of p, p.log)) both.1)

  pub meets_at : (p : Pointer) (a : ℕ) → InSegment p a → InRange range a → meets range p ≡ true
  meets_at p a inside within =
      let low = low_of p.log a p.addr inside in
      let high = high_of p.log a p.addr inside in
      let first : base_of p < end_of range = omega (arith, within.1) in
      let second : range.0 < end_of (base_of p, p.log) = omega (arith, within.0) in
      and_from (nat_lt (base_of p) (end_of range)) (nat_lt range.0 (end_of (base_of p, p.log))) (lt-ltb (base_of p) (end_of range) first) (lt-ltb range.0 (end_of (base_of p, p.log)) second)

  -- a pointer whose segment does not meet the range covers no word there
  pub covers_none : (p : Pointer) (w : ℕ) → meets range p ≡ false → Covers p w → ¬ (InRange range w)
  covers_none p w free covers within =
      let first : InSegment p w = subst (λ a. InSegment p a) (let same : w + 0 ≡ w = omega arith in same) (covers 0 (omega arith)) in
      both_ways (meets range p) free (meets_at p w first within)

  -- nor does one meet it whose segment lies in it
  pub inside_free : (p q : Pointer) → ((a : ℕ) → InSegment q a → InSegment p a) → meets range p ≡ false → meets range q ≡ false
  inside_free p q inside free = false_from_ne_true (meets range q)
      (λ t. let s = shares q t in both_ways (meets range p) free (meets_at p s.address (inside s.address s.in_segment) s.in_range))

pub meeting_is_sharing : (range : ℕ × ℕ) (p : Pointer) → (meets range p ≡ true) ↔ SharesAddress range p
meeting_is_sharing range p = (shares range p, λ s. meets_at range p s.address s.in_segment s.in_range)
