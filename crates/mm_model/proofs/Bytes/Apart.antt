-- The parts of a text that the bytes have.
use Rattle.std.proofs.Common.{[], ◌≡◌, ℕ, zero, suc, ◌+◌, ◌*◌, ◌/◌, ◌%◌, ◌^◌, ◌<◌, Bool, true, false, cond, List, ◌∷◌}
use Rattle.std.proofs.Common.{◌++◌, length, get_or, take, drop, refl, sym, ap, ◌∙◌, arith}
use Rattle.std.proofs.lemmas.Bool.Decides.{nat_tests}
use Rattle.std.proofs.lemmas.List.{take_at, drop_at, take-take, drop-take, drop-drop, get_or-take, get_or-drop}
use Rattle.std.proofs.lemmas.List.{length-take, length-drop}
use Rattle.std.proofs.lemmas.Nat.{from_be_bytes-to_be_bytes_2, from_be_bytes-to_be_bytes_4, from_be_bytes-to_be_bytes_8}
use Rattle.std.{proofs.lemmas.Nat.shr-shr, specs.{Prelude.◌==◌, Int.{w16, w32, w64, to_be_bytes, from_be_bytes}}}
use Rattle.mm_model.specs.{Flags.number_of_flags, Spelling.bitmap, Bytes.{number_at, bit_at}}
use Rattle.mm_model.proofs.Bytes.{Parts.part, Numbers.{number_is_2, number_is_4, number_is_8}}

module _ (bytes : List ℕ) where
  -- 1. A text in two parts.

  pub record InTwo (at m n : ℕ) (a b : List ℕ) : Type 0 where
    pub front : part bytes at m ≡ a
    pub back : part bytes (at + m) n ≡ b

  pub split : (at m n : ℕ) (a b : List ℕ) → part bytes at (m + n) ≡ a ++ b → length a ≡ m → InTwo at m n a b
  split at m n a b e len = record {
    front = sym (take-take m (m + n) (drop at bytes) (omega arith)) ∙ ap (take m) e ∙ take_at a b m len;
    back = ap (take n) (sym (drop-drop m at bytes)) ∙ sym (drop-take m n (drop at bytes)) ∙ ap (drop m) e ∙ drop_at a b m len;
  }

  -- 2. Numbers.

  pub number_in_8 : (at n : ℕ) → n < 2 ^ 64 → part bytes at 8 ≡ to_be_bytes w64 n → number_at bytes at 8 ≡ n
  unfolding number_at
  number_in_8 at n lt e = number_is_8 (part bytes at 8) (ap length e) ∙ ap (from_be_bytes w64)
      (sym (Rattle.mm_model.proofs.Bytes.Numbers.eight (part bytes at 8) (ap length e)) ∙ e)
      ∙ from_be_bytes-to_be_bytes_8 n lt

  pub number_in_4 : (at n : ℕ) → n < 2 ^ 32 → part bytes at 4 ≡ to_be_bytes w32 n → number_at bytes at 4 ≡ n
  unfolding number_at
  number_in_4 at n lt e = number_is_4 (part bytes at 4) (ap length e) ∙ ap (from_be_bytes w32)
      (sym (Rattle.mm_model.proofs.Bytes.Numbers.four (part bytes at 4) (ap length e)) ∙ e)
      ∙ from_be_bytes-to_be_bytes_4 n lt

  pub number_in_2 : (at n : ℕ) → n < 2 ^ 16 → part bytes at 2 ≡ to_be_bytes w16 n → number_at bytes at 2 ≡ n
  unfolding number_at
  number_in_2 at n lt e = number_is_2 (part bytes at 2) (ap length e) ∙ ap (from_be_bytes w16)
      (sym (Rattle.mm_model.proofs.Bytes.Numbers.two (part bytes at 2) (ap length e)) ∙ e)
      ∙ from_be_bytes-to_be_bytes_2 n lt

  pub number_in_1 : (at n : ℕ) → part bytes at 1 ≡ n ∷ [] → number_at bytes at 1 ≡ n
  unfolding number_at
  number_in_1 at n e = let zero_more : 0 + n ≡ n = omega arith in ap (λ (xs : List ℕ). Rattle.std.specs.List.fold (λ m b. m * 256 + b) 0 xs) e ∙ zero_more

-- 3. Flags.

one_more_flag : (b : Bool) (m n : ℕ) → m < 2 ^ n → cond b 1 0 + 2 * m < 2 ^ suc n
one_more_flag true m n lt = omega arith
one_more_flag false m n lt = omega arith

pub number_of_flags-below : (fs : List Bool) → number_of_flags fs < 2 ^ length fs
number_of_flags-below [] = omega arith
number_of_flags-below (b ∷ fs) = one_more_flag b (number_of_flags fs) (length fs) (number_of_flags-below fs)

first_flag : (b : Bool) (m : ℕ) → ((cond b 1 0 + 2 * m) / 2 ^ 0 % 2 == 1) ≡ b
first_flag true m = grind (arith, nat_tests)
first_flag false m = grind (arith, nat_tests)

half_flag : (b : Bool) (m : ℕ) → (cond b 1 0 + 2 * m) / 2 ^ 1 ≡ m
half_flag true m = omega arith
half_flag false m = omega arith

pub flag-get : (fs : List Bool) (r : ℕ) → r < length fs → (number_of_flags fs / 2 ^ r % 2 == 1) ≡ get_or fs r false
flag-get [] r lt = absurd (omega arith)
flag-get (b ∷ fs) zero lt = first_flag b (number_of_flags fs)
flag-get (b ∷ fs) (suc r) lt =
    let next : suc r ≡ 1 + r = omega arith in
    ap (λ j. number_of_flags (b ∷ fs) / 2 ^ j % 2 == 1) next
    ∙ ap (λ n. n % 2 == 1) (sym (shr-shr (number_of_flags (b ∷ fs)) 1 r) ∙ ap (λ n. n / 2 ^ r) (half_flag b (number_of_flags fs))) ∙ flag-get fs r (omega arith)

module _ (bytes : List ℕ) where
  bytes_of_flags : (at count : ℕ) (fs : List Bool) → part bytes at count ≡ bitmap count fs → (i : ℕ) → i < count → number_at bytes (at + i) 1 ≡ number_of_flags (take 8 (drop (8 * i) fs))
  bytes_of_flags at zero fs e i lt = absurd (omega arith)
  bytes_of_flags at (suc count) fs e zero lt =
      let two = split bytes at 1 count (number_of_flags (take 8 fs) ∷ []) (bitmap count (drop 8 fs)) (let all : 1 + count ≡ suc count = omega arith in ap (part bytes at) all ∙ e) refl in
      let here : at + 0 ≡ at = omega arith in
      ap (λ n. number_at bytes n 1) here ∙ number_in_1 bytes at (number_of_flags (take 8 fs)) two.front
  bytes_of_flags at (suc count) fs e (suc i) lt =
      let two = split bytes at 1 count (number_of_flags (take 8 fs) ∷ []) (bitmap count (drop 8 fs)) (let all : 1 + count ≡ suc count = omega arith in ap (part bytes at) all ∙ e) refl in
      let there : at + suc i ≡ at + 1 + i = omega arith in
      let past : 8 + 8 * i ≡ 8 * suc i = omega arith in
      ap (λ n. number_at bytes n 1) there ∙ bytes_of_flags (at + 1) count (drop 8 fs) two.back i (omega arith)
      ∙ ap (λ xs. number_of_flags (take 8 xs)) (drop-drop (8 * i) 8 fs ∙ ap (λ n. drop n fs) past)

  -- a bit of a bitmap
  pub bit_at-bitmap : (at : ℕ) (fs : List Bool) → length fs ≡ 512 → part bytes at 64 ≡ bitmap 64 fs → (k : ℕ) → k < 512 → bit_at bytes at k ≡ get_or fs k false
  bit_at-bitmap at fs len e k lt =
      let i = k / 8 in
      let j = k % 8 in
      let group = take 8 (drop (8 * i) fs) in
      let long : j < length group = omega (arith, length-take 8 (drop (8 * i) fs), length-drop (8 * i) fs, len) in
      let small : j < 8 = omega arith in
      let place : 8 * i + j ≡ k = omega arith in
      ap (λ n. n / 2 ^ j % 2 == 1) (bytes_of_flags at 64 fs e i (omega arith)) ∙ flag-get group j long
      ∙ get_or-take 8 (drop (8 * i) fs) j false small ∙ get_or-drop (8 * i) fs j false ∙ ap (λ n. get_or fs n false) place
