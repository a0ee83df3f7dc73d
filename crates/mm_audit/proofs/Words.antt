-- Words in segments.
use Rattle.std.proofs.Common.{◌≡◌, ℕ, ◌+◌, ◌-◌, ◌*◌, ◌/◌, ◌%◌, ◌^◌, ◌<◌, ◌≤◌, sym, ap, ◌∙◌, subst, arith, pow-add}
use Rattle.std.proofs.{Common.{pow_pos, add-zero}, Math.Nat.div-eq_of_lt-le}
use Rattle.mm_graph.proofs.Bounds.{assoc}
use Rattle.mm_word.{proofs.Segments.segment_below, specs.Pointer.{Pointer, Covers}}
use Rattle.mm_seg.specs.Segments.{IsSegment, end_of}

-- the word of an address of a segment begins in it, and lies in memory
pub word_start : (s : ℕ × ℕ) (w : ℕ) → IsSegment s → s.0 ≤ w → w < end_of s → (s.0 ≤ w / 8 * 8) × (w / 8 * 8 < end_of s) × (w < 2 ^ 54)
word_start s w seg lo hi =
    let long = seg.low in
    let eight : 2 ^ (s.1 - 3) * 8 ≡ 2 ^ s.1 = sym (pow-add 2 (s.1 - 3) 3) ∙ ap (λ v. 2 ^ v) (let e : (s.1 - 3) + 3 ≡ s.1 = omega arith in e) in
    let base : s.0 / 2 ^ s.1 * 2 ^ (s.1 - 3) * 8 ≡ s.0 = assoc (s.0 / 2 ^ s.1) (2 ^ (s.1 - 3)) 8 ∙ ap (λ v. s.0 / 2 ^ s.1 * v) eight ∙ seg.aligned in
    let block : w / 2 ^ s.1 ≡ s.0 / 2 ^ s.1 = in_block (s.0 / 2 ^ s.1) (2 ^ s.1) (subst (λ v. v ≤ w) (sym seg.aligned) lo) (subst (λ v. w < v + 2 ^ s.1) (sym seg.aligned) hi) in
    (omega arith, omega arith, segment_below s.1 w s.0 seg.high seg.below block)
  where
    in_block : (b u : ℕ) → b * u ≤ w → w < b * u + u → w / u ≡ b
    in_block b u low high = div-eq_of_lt-le u low (let e : b * u + u ≡ (b + 1) * u = grind arith in subst (λ v. w < v) e high)

pub first_byte : (p : Pointer) (w : ℕ) → Covers p w → w / 2 ^ p.log ≡ p.addr / 2 ^ p.log
first_byte p w c = rw add-zero at (c 0 (omega arith))

-- a segment begins with a word
pub base_word : (s : ℕ × ℕ) → IsSegment s → s.0 % 8 ≡ 0
base_word s seg =
    let room : s.0 < end_of s = (let r = pow_pos s.1 in omega arith) in
    let w = word_start s s.0 seg (omega arith) room in
    let low = w.0 in
    omega arith
