-- Hexadecimal digits, as few as a number needs.
use Rattle.std.proofs.Common.{◌≡◌, ◌⊎◌, ℕ, zero, suc, ◌+◌, ◌*◌, ◌/◌, ◌%◌, ◌^◌, ◌<◌, ◌≤◌, ◌==◌, if◌then◌else◌, Bool}
use Rattle.std.proofs.Common.{true, false, List, [], ◌∷◌, ◌++◌, length, inl, inr, refl, sym, ap, ◌∙◌, arith}
use Rattle.std.proofs.{Common.append_assoc, lemmas.{List.append-nil, Bool.Decides.nat_tests}, Math.Pow.pow_mono}
use Rattle.std.specs.Fmt.{digits, digits_onto, digit_glyph}
use Rattle.mm_model.specs.Digits.{hex}

-- all digits but the last are none
is_last : (n : ℕ) → n < 16 → (n / 16 == 0) ≡ true
is_last n h = let none : n / 16 ≡ 0 = omega arith in grind (arith, nat_tests)

has_more : (n : ℕ) → 16 ≤ n → (n / 16 == 0) ≡ false
has_more n h = let some : 1 ≤ n / 16 = omega arith in grind (arith, nat_tests)

onto : (k fuel n : ℕ) (acc : List ℕ) → k < fuel → n < 16 ^ suc k → (k ≡ 0) ⊎ (16 ^ k ≤ n) → digits_onto fuel 16 false n acc ≡ hex (suc k) n ++ acc
unfolding hex
onto k zero n acc room fits least = absurd (omega arith)
onto zero (suc fuel) n acc room fits least = rw (is_last n (omega arith)) refl
onto (suc k) (suc fuel) n acc room fits least =
    let many : 16 ^ suc k ≤ n = elim least [ inl none ↦ absurd (omega arith) | inr many ↦ many ] in
    let more : 16 ^ k ≤ n / 16 = omega arith in
    let glyph = digit_glyph false (n % 16) in
    rw (has_more n (omega arith)) (onto k fuel (n / 16) (glyph ∷ acc) (omega arith) (omega arith) (inr more)
    ∙ sym (append_assoc (hex (suc k) (n / 16)) (glyph ∷ []) acc))

few : (k fuel n : ℕ) (acc : List ℕ) → k < fuel → n < 16 ^ suc k → length (digits_onto fuel 16 false n acc) ≤ suc k + length acc
few k zero n acc room fits = absurd (omega arith)
few zero (suc fuel) n acc room fits = rw (is_last n (omega arith)) (omega arith)
few (suc k) (suc fuel) n acc room fits = by (n / 16 == 0) (few k fuel (n / 16) (digit_glyph false (n % 16) ∷ acc) (omega arith) (omega arith))
  where
    by : (b : Bool) → length (digits_onto fuel 16 false (n / 16) (digit_glyph false (n % 16) ∷ acc)) ≤ suc k + length (digit_glyph false (n % 16) ∷ acc)
        → length (if b then digit_glyph false (n % 16) ∷ acc else digits_onto fuel 16 false (n / 16) (digit_glyph false (n % 16) ∷ acc)) ≤ suc (suc k) + length acc
    by true rest = omega arith
    by false rest = omega arith

pub shortest : (k n : ℕ) → k < 64 → n < 16 ^ suc k → (k ≡ 0) ⊎ (16 ^ k ≤ n) → hex (suc k) n ≡ digits 16 false n
unfolding digits
shortest k n room fits least = sym (onto k 64 n [] room fits least ∙ append-nil (hex (suc k) n))

sixteen : (k : ℕ) → 16 ^ k ≡ 2 ^ (4 * k)
sixteen zero = refl
sixteen (suc k) =
    let four : 4 * suc k ≡ suc (suc (suc (suc (4 * k)))) = omega arith in
    omega (arith, sixteen k, ap (λ m. 2 ^ m) four)

-- four bits are a digit
pub by_bits : (bit n : ℕ) → bit < 32 → 2 ^ bit ≤ n → n < 2 * 2 ^ bit → hex (bit / 4 + 1) n ≡ digits 16 false n
by_bits bit n room least most =
    let k = bit / 4 in
    let low : 2 ^ (4 * k) ≤ 2 ^ bit = pow_mono (omega arith) in
    let high : 2 ^ suc bit ≤ 2 ^ (4 * suc k) = pow_mono (omega arith) in
    ap (λ m. hex m n) (omega arith) ∙ shortest k n (omega arith) (omega (arith, high, sixteen (suc k), most)) (inr (omega (arith, low, sixteen k, least)))

-- a number below 2^20 needs five digits at most
pub at_most_five : (n : ℕ) → n < 2 ^ 20 → length (digits 16 false n) ≤ 5
unfolding digits
at_most_five n h = omega (arith, few 4 64 n [] (omega arith) (omega arith))
