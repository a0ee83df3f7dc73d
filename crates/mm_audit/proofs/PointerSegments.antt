-- Segments of pointers.
use Rattle.std.proofs.Common.{◌≡◌, ℕ, ◌+◌, ◌-◌, ◌*◌, ◌/◌, ◌^◌, ◌<◌, ◌≤◌, inl, inr, ap, subst, arith, pow_pos}
use Rattle.std.proofs.Math.Nat.{div-mul-le_self, lt-div-mul-add, div-eq_of_lt-le}
use Rattle.std.proofs.lemmas.{Bool.cases_lt, Nat.{pow_below, shr_high}}
use Rattle.mm_word.specs.Pointer.{Pointer, InSegment, IsBelow, IsWellFormed, base_of}
use Rattle.mm_graph.proofs.{Segments.inside-log, Representatives.{base-block, base_below}}
use Rattle.mm_seg.specs.Segments.{IsSegment, LiesIn, end_of}

-- the segment of a pointer
abbrev pub segment_of : Pointer → ℕ × ℕ
segment_of p = (base_of p, p.log)

pub pointer_segment : (p : Pointer) → IsWellFormed p → 3 ≤ p.log → IsSegment (segment_of p)
pointer_segment p w long = record {
  low = long;
  high = w.log_in_range;
  aligned = ap (λ v. v * 2 ^ p.log) (base-block p.log p.addr);
  below = (let a = base_below p in let b = w.addr_in_range in omega arith);
}

-- one address of the segment is between its ends
pub between : (p : Pointer) (a : ℕ) → InSegment p a → (base_of p ≤ a) × (a < end_of (segment_of p))
between p a h =
    let lo = div-mul-le_self a (2 ^ p.log) in
    let hi = lt-div-mul-add {a = a} (pow_pos p.log) in
    let lo2 : p.addr / 2 ^ p.log * 2 ^ p.log ≤ a = rw h at lo in
    let hi2 : a < p.addr / 2 ^ p.log * 2 ^ p.log + 2 ^ p.log = rw h at hi in
    (omega arith, omega arith)

pub in_by : (p : Pointer) (a : ℕ) → base_of p ≤ a → a < end_of (segment_of p) → InSegment p a
in_by p a lo hi = div-eq_of_lt-le (2 ^ p.log) lo (subst (λ v. a < v) (step (p.addr / 2 ^ p.log) (2 ^ p.log)) hi)
  where
    step : (b u : ℕ) → b * u + u ≡ (b + 1) * u
    step b u = grind arith

lies : (p q : Pointer) → ((a : ℕ) → InSegment q a → InSegment p a) → LiesIn (segment_of q) (segment_of p)
lies p q h =
    let room = pow_pos q.log in
    let first = between p (base_of q) (h (base_of q) (base-block q.log q.addr)) in
    let last = between p (base_of q + (2 ^ q.log - 1)) (h (base_of q + (2 ^ q.log - 1)) (shr_high (q.addr / 2 ^ q.log) q.log (2 ^ q.log - 1) (omega arith))) in
    let low = first.0 in
    let high = last.1 in
    (omega arith, omega arith)

pub lies_below : (p q : Pointer) → IsBelow q p → LiesIn (segment_of q) (segment_of p)
lies_below p q (inl e) = subst (λ v. LiesIn (segment_of q) (segment_of v)) e (omega arith, omega arith)
lies_below p q (inr b) = lies p q b.inside

pub log_below : (p q : Pointer) → IsBelow q p → q.log ≤ p.log
log_below p q (inl e) = let same = ap (λ (v : Pointer). v.log) e in omega arith
log_below p q (inr b) = inside-log p q b.inside

-- of two segments, one in the other, the one is no longer
pub shorter : (s t : ℕ × ℕ) → LiesIn s t → s.1 ≤ t.1
shorter s t h = elim (cases_lt t.1 s.1) [ inr le ↦ le | inl lt ↦ absurd (let up = pow_below t.1 s.1 lt in let a = h.0 in let b = h.1 in omega arith) ]
