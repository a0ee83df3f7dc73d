-- The segments of keys in their order.
use Rattle.std.proofs.{Common.{◌≡◌, ℕ, ◌-◌, ◌^◌, ◌<◌, ◌≤◌, inl, inr, refl, arith, pow_pos}, Math.Pow.pow_mono}
use Rattle.std.specs.declared.cmp.Ordering.TheVariants.{Less}
use Rattle.mm_seg.{specs.Segments.{IsSegment, end_of}, proofs.Inserts.nested_aligned}
use Rattle.mm_graph.specs.{declared.canonical_ptr.CanonicalPtr.CanonicalPtr, Key.{IsKey, key_cmp, pointer_at}}
use Rattle.mm_graph.proofs.{Representatives.base_below, Nesting.{log_is, aligned_key, base_rises, length_falls}}

abbrev pub key_segment : CanonicalPtr → ℕ × ℕ
key_segment k = (k.base, 54 - k.narrow)

pub key_is_segment : (k : CanonicalPtr) → IsKey k → 3 ≤ (pointer_at k).log → IsSegment (key_segment k)
key_is_segment k h long =
    let log : 54 - k.narrow ≡ (pointer_at k).log = log_is k h in
    let w = h.well_formed in
    let small = w.log_in_range in
    let below = base_below (pointer_at k) in
    let addr = w.addr_in_range in
    let base = h.base in
    record { low = omega arith; high = omega arith; aligned = aligned_key k h; below = omega arith }

module _ (x y : CanonicalPtr) (less : key_cmp x y ≡ Less) where
  pub end_nests : IsKey x → IsKey y → y.base < end_of (key_segment x) → end_of (key_segment y) ≤ end_of (key_segment x)
  end_nests kx ky inside =
      let up = base_rises x y less in
      let room = pow_pos (54 - y.narrow) in
      elim (nested_aligned (key_segment x) (key_segment y) (aligned_key x kx) (aligned_key y ky) (omega arith) inside) [
        | inl w ↦ w.1
        | inr w ↦ let le = w.0 in let same : x.base ≡ y.base = omega arith in let falls = length_falls x y less same in omega arith
      ]

-- a segment lies in the whole memory
pub in_memory : (s : ℕ × ℕ) → IsSegment s → end_of s ≤ 2 ^ 54
in_memory s seg =
    let below = seg.below in
    let room = pow_pos s.1 in
    elim (nested_aligned (0, 54) s refl seg.aligned (omega arith) (omega arith)) [
      | inl w ↦ let le = w.1 in omega arith
      | inr w ↦
          let first = w.0 in
          let high = seg.high in
          let up : 2 ^ s.1 ≤ 2 ^ 54 = pow_mono high in
          omega arith
    ]
