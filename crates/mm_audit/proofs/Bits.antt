-- Bits of masks.
use Rattle.std.proofs.Common.{◌≡◌, ◌==◌, not, ℕ, zero, suc, ◌+◌, ◌-◌, ◌*◌, ◌/◌, ◌%◌, ◌^◌, ◌<◌, ◌⊎◌, ◌↔◌, inl, inr, true}
use Rattle.std.proofs.Common.{min, bit_and, bit_xor, refl, sym, ap, ◌∙◌, arith, pow_pos}
use Rattle.std.proofs.lemmas.Bool.Decides.{nat_tests}
use Rattle.std.proofs.lemmas.Nat.Bits.{bit_at_and, bit_at_xor, bit_at_not, bit_at-lt, bit_at-suc, and_pow, shr_and_one}
use Rattle.std.specs.Int.{bit_at, bit_not, w64}

-- two bits that differ leave a bit
pub same_bit : (a b g : ℕ) → (bit_at (bit_xor a b) g ≡ 1 → ⊥) → bit_at a g ≡ bit_at b g
same_bit a b g clear = at _ _ _ (bit_at_xor a b g) clear (bit_at-lt a g) (bit_at-lt b g)
  where
    at : (x y z : ℕ) → z ≡ (x + y) % 2 → (z ≡ 1 → ⊥) → x < 2 → y < 2 → x ≡ y
    at zero zero z e off p q = refl
    at zero (suc zero) z e off p q = absurd (off e)
    at (suc zero) zero z e off p q = absurd (off e)
    at (suc zero) (suc zero) z e off p q = refl
    at (suc (suc x)) y z e off p q = absurd (omega arith)
    at x (suc (suc y)) z e off p q = absurd (omega arith)

pub half_bit : (m g : ℕ) → bit_at (m / 2) g ≡ bit_at m (g + 1)
half_bit m g = sym (bit_at-suc m g) ∙ ap (bit_at m) (let e : suc g ≡ g + 1 = omega arith in e)

not_zero : (n : ℕ) → not (suc n == 0) ≡ true
not_zero n = grind (arith, nat_tests)

-- a mask with one group
pub one_test : (m g : ℕ) → not (bit_and m (2 ^ g) == 0) ≡ (bit_at m g == 1)
one_test m g = at (bit_at m g) (bit_and m (2 ^ g)) (bit_at-lt m g) (and_pow m g)
  where
    at : (b n : ℕ) → b < 2 → n ≡ b * 2 ^ g → not (n == 0) ≡ (b == 1)
    at zero n lt e = let none : n ≡ 0 = grind arith in rw none refl
    at (suc zero) zero lt e = absurd (let room = pow_pos g in omega arith)
    at (suc zero) (suc n) lt e = not_zero n
    at (suc (suc b)) n lt e = absurd (omega arith)

pub clear_bit : (m g : ℕ) → bit_and (m / 2 ^ g) 1 ≡ 0 → bit_at m g ≡ 1 → ⊥
clear_bit m g h bit = let e = shr_and_one m g in omega arith

-- the bits of one mask that are not of another
pub fresh_bit : (a b g : ℕ) → b < 2 ^ 64 → g < 64 → (bit_at (bit_and a (bit_not w64 b)) g ≡ 1) ↔ ((bit_at a g ≡ 1) × (bit_at b g ≡ 1 → ⊥))
fresh_bit a b g fits lt = at _ _ _ _ (bit_at_and a (bit_not w64 b) g) (bit_at_not w64 b g fits lt) (bit_at-lt a g) (bit_at-lt b g)
  where
    at : (x y u z : ℕ) → z ≡ min x u → u ≡ 1 - y → x < 2 → y < 2 → (z ≡ 1) ↔ ((x ≡ 1) × (y ≡ 1 → ⊥))
    at x zero u z e f p q = (λ h. (grind arith, λ t. absurd (omega arith)), λ h. let one = h.0 in grind arith)
    at x (suc zero) u z e f p q = (λ h. absurd (let none : z ≡ 0 = grind arith in omega arith), λ h. absurd (h.1 refl))
    at x (suc (suc y)) u z e f p q = absurd (omega arith)

pub zero_or_one : (m g : ℕ) → (bit_at m g ≡ 1 → ⊥) ⊎ (bit_at m g ≡ 1)
zero_or_one m g = at (bit_at m g) (bit_at-lt m g)
  where
    at : (b : ℕ) → b < 2 → (b ≡ 1 → ⊥) ⊎ (b ≡ 1)
    at zero lt = inl (λ h. absurd (omega arith))
    at (suc zero) lt = inr refl
    at (suc (suc b)) lt = absurd (omega arith)

pub set_bit : (m g : ℕ) → (bit_and (m / 2 ^ g) 1 ≡ 0 → ⊥) → bit_at m g ≡ 1
set_bit m g some = at (bit_at m g) (bit_at-lt m g) (λ e. some (shr_and_one m g ∙ e))
  where
    at : (b : ℕ) → b < 2 → (b ≡ 0 → ⊥) → b ≡ 1
    at zero lt h = absurd (h refl)
    at (suc zero) lt h = refl
    at (suc (suc b)) lt h = absurd (omega arith)
