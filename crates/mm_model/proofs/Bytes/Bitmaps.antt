-- Bitmaps: flags and the bytes that hold them.
use Rattle.std.proofs.Common.{◌≡◌, ℕ, zero, suc, ◌+◌, ◌*◌, ◌/◌, ◌%◌, ◌^◌, ◌<◌, ◌≤◌, Bool, false, cond, List, [], ◌∷◌}
use Rattle.std.proofs.Common.{length, get_or, take, drop, map, refl, sym, ap, ◌∙◌, arith, inl, inr}
use Rattle.std.proofs.lemmas.Bool.{cases_eq, Decides.nat_tests}
use Rattle.std.proofs.lemmas.List.{same_lists}
use Rattle.std.proofs.lemmas.List.FromFn.{length-map-range_with_len, get_or-map-range_with_len, take-map-range_with_len}
use Rattle.std.specs.{Prelude.◌==◌, List.range_with_len}
use Rattle.mm_model.specs.{Flags.{flags, number_of_flags}, Spelling.bitmap, Bytes.{number_at, bit_at}}
use Rattle.mm_model.proofs.FlagLists.{flags-get}
use Rattle.mm_model.proofs.Bytes.Ranges.{map-same, map-shift, drop-range}
use Rattle.mm_model.proofs.Bytes.Parts.{IsBytes, part, join_at, one_byte, below_8}

-- 1. A number and its flags.

pub length-flags : (k n : ℕ) → length (flags k n) ≡ k
length-flags zero n = refl
length-flags (suc k) n = ap suc (length-flags k (n / 2))

half : (n : ℕ) → cond (n % 2 == 1) 1 0 + 2 * (n / 2) ≡ n
half n = elim (cases_eq (n % 2) 1) [ inl odd ↦ grind (arith, nat_tests) | inr even ↦ grind (arith, nat_tests) ]

pub number_of_flags-flags : (k n : ℕ) → n < 2 ^ k → number_of_flags (flags k n) ≡ n
number_of_flags-flags zero n lt = omega arith
number_of_flags-flags (suc k) n lt = ap (λ m. cond (n % 2 == 1) 1 0 + 2 * m) (number_of_flags-flags k (n / 2) (omega arith)) ∙ half n

-- each bit by its place
pub bits-flags : (k n : ℕ) → map (λ r. n / 2 ^ r % 2 == 1) (range_with_len 0 k) ≡ flags k n
bits-flags k n =
    same_lists (map (λ r. n / 2 ^ r % 2 == 1) (range_with_len 0 k)) (flags k n) (length-map-range_with_len (λ r. n / 2 ^ r % 2 == 1) 0 k ∙ sym (length-flags k n)) (λ i d lt.
    let small : i < k = omega (arith, length-map-range_with_len (λ r. n / 2 ^ r % 2 == 1) 0 k) in
    get_or-map-range_with_len (λ r. n / 2 ^ r % 2 == 1) 0 k i i d small (omega arith) ∙ sym (flags-get k n i small) ∙ default (flags k n) i d (omega (arith, length-flags k n)))
  where
    default : (xs : List Bool) (i : ℕ) (d : Bool) → i < length xs → get_or xs i false ≡ get_or xs i d
    default [] i d lt = absurd (omega arith)
    default (x ∷ xs) zero d lt = refl
    default (x ∷ xs) (suc i) d lt = default xs i d (omega arith)

pub number_of_bits : (k n : ℕ) → n < 2 ^ k → number_of_flags (map (λ r. n / 2 ^ r % 2 == 1) (range_with_len 0 k)) ≡ n
number_of_bits k n lt = ap number_of_flags (bits-flags k n) ∙ number_of_flags-flags k n lt

-- 2. Bits of bytes.

module _ (bytes : List ℕ) (fits : IsBytes bytes) where
  -- eight bits are a byte
  one_byte_of : (at i : ℕ) → at + i + 1 ≤ length bytes → number_of_flags (map (bit_at bytes at) (range_with_len (8 * i) 8)) ≡ number_at bytes (at + i) 1
  one_byte_of at i le =
      let n = number_at bytes (at + i) 1 in
      let start : 8 * i + 0 ≡ 8 * i = omega arith in
      let bits : map (bit_at bytes at) (range_with_len (8 * i) 8) ≡ map (λ r. n / 2 ^ r % 2 == 1) (range_with_len 0 8) =
      ap (λ k. map (bit_at bytes at) (range_with_len k 8)) (sym start) ∙ map-shift (bit_at bytes at) 0 (8 * i) 8
      ∙ map-same (λ j. bit_at bytes at (8 * i + j)) (λ r. n / 2 ^ r % 2 == 1) 0 8 (λ j low high.
      let q : (8 * i + j) / 8 ≡ i = omega arith in
      let r : (8 * i + j) % 8 ≡ j = omega arith in
      ap (λ a. number_at bytes (at + a) 1 / 2 ^ ((8 * i + j) % 8) % 2 == 1) q ∙ ap (λ a. n / 2 ^ a % 2 == 1) r) in
      ap number_of_flags bits ∙ number_of_bits 8 n (below_8 bytes (at + i) fits le)

  pub bitmap-part : (at i count : ℕ) → at + i + count ≤ length bytes → bitmap count (map (bit_at bytes at) (range_with_len (8 * i) (8 * count))) ≡ part bytes (at + i) count
  bitmap-part at i zero le = refl
  bitmap-part at i (suc count) le =
      let all : 8 * suc count ≡ 8 + 8 * count = omega arith in
      let next : 8 * i + 8 ≡ 8 * (i + 1) = omega arith in
      let f = bit_at bytes at in
      let front : number_of_flags (take 8 (map f (range_with_len (8 * i) (8 + 8 * count)))) ≡ number_at bytes (at + i) 1
      = ap number_of_flags (take-map-range_with_len f (8 * i) (8 + 8 * count) 8 (omega arith)) ∙ one_byte_of at i
      (omega arith) in
      let back : bitmap count (drop 8 (map f (range_with_len (8 * i) (8 + 8 * count)))) ≡ part bytes (at + (i + 1)) count =
      ap (bitmap count) (drop-range f (8 * i) 8 (8 * count) ∙ ap (λ k. map f (range_with_len k (8 * count))) next) ∙ bitmap-part at (i + 1) count (omega arith) in
      ap (λ m. bitmap (suc count) (map f (range_with_len (8 * i) m))) all
      ∙ ap (λ n. n ∷ bitmap count (drop 8 (map f (range_with_len (8 * i) (8 + 8 * count))))) front
      ∙ join_at bytes (at + i) (at + (i + 1)) 1 count (suc count) (number_at bytes (at + i) 1 ∷ [])
      (bitmap count (drop 8 (map f (range_with_len (8 * i) (8 + 8 * count)))))
      (one_byte bytes (at + i) (omega arith)) back (omega arith) (omega arith)
