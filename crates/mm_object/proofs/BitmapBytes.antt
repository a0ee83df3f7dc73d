-- Bitmaps whose last byte may be less than full.
use Rattle.std.proofs.Common.{◌≡◌, ◌≢◌, ℕ, zero, suc, ◌+◌, ◌*◌, ◌/◌, ◌%◌, ◌^◌, ◌<◌, ◌≤◌, Bool, true, false, not, List}
use Rattle.std.proofs.Common.{[], ◌∷◌, length, get_or, take, drop, map, refl, sym, ap, ◌∙◌, arith, inl, inr}
use Rattle.std.proofs.lemmas.Bool.{cases_eq, Decides.nat_tests}
use Rattle.std.proofs.lemmas.List.{take_all, take-take, drop-take, drop-drop, length-take, length-drop, get_or-take}
use Rattle.std.proofs.lemmas.List.{get_or-drop}
use Rattle.std.proofs.lemmas.List.FromFn.{length-map-range_with_len, take-map-range_with_len}
use Rattle.std.specs.{Prelude.{◌==◌, ◌&&◌, nat_le}, List.range_with_len}
use Rattle.mm_model.specs.{Flags.number_of_flags, Spelling.bitmap, Bytes.{number_at, bit_at}}
use Rattle.mm_model.proofs.Bytes.{Numbers.field_1, Parts.{IsBytes, part, join_at, one_byte}}
use Rattle.mm_model.proofs.Bytes.{Ranges.{map-same, map-shift, drop-range}, Bitmaps.{number_of_bits, bitmap-part}}
use Rattle.mm_model.proofs.Bytes.{Clean.is_below, Apart.{number_of_flags-below, flag-get}}
use Rattle.mm_object.{specs.Format.has_unused_bit, proofs.Written.bitmap_more}

-- as many flags as the bytes hold
bitmap-take : (q : ℕ) (fs : List Bool) → bitmap q fs ≡ bitmap q (take (8 * q) fs)
bitmap-take zero fs = refl
bitmap-take (suc q) fs =
    let all : 8 * suc q ≡ 8 + 8 * q = omega arith in
    ap (λ xs. number_of_flags xs ∷ bitmap q (drop 8 fs)) (sym (take-take 8 (8 + 8 * q) fs (omega arith)))
    ∙ ap (λ ys. number_of_flags (take 8 (take (8 + 8 * q) fs)) ∷ ys) (bitmap-take q (drop 8 fs) ∙ ap (bitmap q) (sym (drop-take 8 (8 * q) fs)))
    ∙ ap (λ n. bitmap (suc q) (take n fs)) (sym all)

bitmap-get : (count : ℕ) (fs : List Bool) (i : ℕ) → i < count → get_or (bitmap count fs) i 0 ≡ number_of_flags (take 8 (drop (8 * i) fs))
bitmap-get zero fs i lt = absurd (omega arith)
bitmap-get (suc count) fs zero lt = refl
bitmap-get (suc count) fs (suc i) lt =
    let past : 8 + 8 * i ≡ 8 * suc i = omega arith in
    bitmap-get count (drop 8 fs) i (omega arith) ∙ ap (λ xs. number_of_flags (take 8 xs)) (drop-drop (8 * i) 8 fs ∙ ap (λ n. drop n fs) past)

not_some : (r : ℕ) (b : Bool) → r ≢ 0 → (not (r == 0) && b) ≡ false → b ≡ false
not_some r b ne e = go (r == 0) refl e
  where
    go : (t : Bool) → (r == 0) ≡ t → (not t && b) ≡ false → b ≡ false
    go true z e = absurd (ne (Rattle.std.proofs.Common.eqb-true r 0 z))
    go false z e = e

none_unused : (r n : ℕ) → n < 2 ^ r → (not (r == 0) && nat_le (2 ^ r) n) ≡ false
none_unused r n lt = go (r == 0)
  where
    low : nat_le (2 ^ r) n ≡ false
    low = grind (arith, nat_tests)

    go : (t : Bool) → (not t && nat_le (2 ^ r) n) ≡ false
    go true = refl
    go false = low

module _ (bytes : List ℕ) where
  -- 1. Bits that are read.

  last_byte : (at n : ℕ) → number_at bytes (at + n / 8) 1 < 2 ^ (n % 8) → number_of_flags (take 8 (drop (8 * (n / 8)) (map (bit_at bytes at) (range_with_len 0 n)))) ≡ number_at bytes (at + n / 8) 1
  last_byte at n small =
      let q = n / 8 in
      let r = n % 8 in
      let f = bit_at bytes at in
      let byte = number_at bytes (at + q) 1 in
      let all : 8 * q + r ≡ n = omega arith in
      let from : 0 + 8 * q ≡ 8 * q = omega arith in
      let start : 8 * q + 0 ≡ 8 * q = omega arith in
      let rest : drop (8 * q) (map f (range_with_len 0 n)) ≡ map f (range_with_len (8 * q) r) = ap
      (λ m. drop (8 * q) (map f (range_with_len 0 m))) (sym all) ∙ drop-range f 0 (8 * q) r
      ∙ ap (λ m. map f (range_with_len m r)) from in
      let bits : map f (range_with_len (8 * q) r) ≡ map (λ j. byte / 2 ^ j % 2 == 1) (range_with_len 0 r) =
      ap (λ m. map f (range_with_len m r)) (sym start) ∙ map-shift f 0 (8 * q) r
      ∙ map-same (λ j. f (8 * q + j)) (λ j. byte / 2 ^ j % 2 == 1) 0 r (λ j low high.
      let a : (8 * q + j) / 8 ≡ q = omega arith in
      let b : (8 * q + j) % 8 ≡ j = omega arith in
      ap (λ m. number_at bytes (at + m) 1 / 2 ^ ((8 * q + j) % 8) % 2 == 1) a ∙ ap (λ m. byte / 2 ^ m % 2 == 1) b) in
      ap (λ xs. number_of_flags (take 8 xs)) (rest ∙ bits)
      ∙ ap number_of_flags (take_all 8 (map (λ j. byte / 2 ^ j % 2 == 1) (range_with_len 0 r)) (omega (arith, length-map-range_with_len (λ j. byte / 2 ^ j % 2 == 1) 0 r)))
      ∙ number_of_bits r byte small

  pub bits_part : IsBytes bytes → (at n : ℕ) → at + (n + 7) / 8 ≤ length bytes → has_unused_bit bytes at n ≡ false
      → bitmap ((n + 7) / 8) (map (bit_at bytes at) (range_with_len 0 n)) ≡ part bytes at ((n + 7) / 8)
  bits_part fits at n le used =
      let q = n / 8 in
      let f = bit_at bytes at in
      let here : at + 0 ≡ at = omega arith in
      let whole : bitmap q (map f (range_with_len 0 (8 * q))) ≡ part bytes at q = bitmap-part bytes fits at 0 q (omega arith) ∙ ap (λ m. part bytes m q) here in
      elim (cases_eq (n % 8) 0) [
        | inl even ↦
            let count : (n + 7) / 8 ≡ q = omega arith in
            let all : n ≡ 8 * q = omega arith in
            ap (λ m. bitmap m (map f (range_with_len 0 n))) count ∙ ap (λ m. bitmap q (map f (range_with_len 0 m))) all ∙ whole ∙ ap (part bytes at) (sym count)
        | inr odd ↦
            let count : (n + 7) / 8 ≡ q + 1 = omega arith in
            let fs = map f (range_with_len 0 n) in
            let small = is_below (number_at bytes (at + q) 1) (2 ^ (n % 8)) (not_some (n % 8) (nat_le (2 ^ (n % 8)) (number_at bytes (at + q) 1)) odd used) in
            let front : bitmap q fs ≡ part bytes at q = bitmap-take q fs ∙ ap (bitmap q) (take-map-range_with_len f 0 n (8 * q) (omega arith)) ∙ whole in
            let back : number_of_flags (take 8 (drop (8 * q) fs)) ∷ [] ≡ part bytes (at + q) 1 = ap (λ m. m ∷ []) (last_byte at n small) ∙ one_byte bytes (at + q) (omega arith) in
            ap (λ m. bitmap m fs) count ∙ bitmap_more q fs ∙ join_at bytes at (at + q) q 1 ((n + 7) / 8) (bitmap q fs) (number_of_flags (take 8 (drop (8 * q) fs)) ∷ []) front back refl (sym count)
      ]

  -- 2. Bits that are spelled.

  byte_of_flags : (at count : ℕ) (fs : List Bool) → at + count ≤ length bytes → part bytes at count ≡ bitmap count fs
      → (i : ℕ) → i < count → number_at bytes (at + i) 1 ≡ number_of_flags (take 8 (drop (8 * i) fs))
  byte_of_flags at count fs le e i lt =
      field_1 bytes (at + i) (omega arith) ∙ sym (get_or-take count (drop at bytes) i 0 lt ∙ get_or-drop at bytes i 0) ∙ ap (λ xs. get_or xs i 0) e ∙ bitmap-get count fs i lt

  module _ (at : ℕ) (fs : List Bool) (le : at + (length fs + 7) / 8 ≤ length bytes) (e : part bytes at ((length fs + 7) / 8) ≡ bitmap ((length fs + 7) / 8) fs) where
    pub bit_is : (k : ℕ) → k < length fs → bit_at bytes at k ≡ get_or fs k false
    bit_is k lt =
        let i = k / 8 in
        let j = k % 8 in
        let group = take 8 (drop (8 * i) fs) in
        let long : j < length group = omega (arith, length-take 8 (drop (8 * i) fs), length-drop (8 * i) fs) in
        let small : j < 8 = omega arith in
        let place : 8 * i + j ≡ k = omega arith in
        ap (λ n. n / 2 ^ j % 2 == 1) (byte_of_flags at ((length fs + 7) / 8) fs le e i (omega arith)) ∙ flag-get group j long
        ∙ get_or-take 8 (drop (8 * i) fs) j false small ∙ get_or-drop (8 * i) fs j false ∙ ap (λ n. get_or fs n false) place

    pub none_unused_is : has_unused_bit bytes at (length fs) ≡ false
    none_unused_is =
        let q = length fs / 8 in
        elim (cases_eq (length fs % 8) 0) [
          | inl even ↦ ap (λ r. not (r == 0) && nat_le (2 ^ (length fs % 8)) (number_at bytes (at + q) 1)) even
          | inr odd ↦
              let group = take 8 (drop (8 * q) fs) in
              let long : length group ≡ length fs % 8 = omega (arith, length-take 8 (drop (8 * q) fs), length-drop (8 * q) fs) in
              let byte = byte_of_flags at ((length fs + 7) / 8) fs le e q (omega arith) in
              let small : number_at bytes (at + q) 1 < 2 ^ (length fs % 8) = rw (byte, ← long) (number_of_flags-below group) in
              none_unused (length fs % 8) (number_at bytes (at + q) 1) small
        ]
