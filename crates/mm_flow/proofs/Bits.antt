-- Bits of masks.
use Rattle.std.proofs.lemmas.Nat.Bits.{bit_at_or, bit_at_and, bit_at-lt, bit_at-zero, shr_and_one}
use Rattle.std.proofs.Common.{◌≡◌, ℕ, ◌/◌, ◌^◌, ◌<◌, ◌⊎◌, max, min, bit_and, bit_or, sym, ◌∙◌, arith}
use Rattle.std.specs.Int.{bit_at}

pub or_left : (a b g : ℕ) → bit_at a g ≡ 1 → bit_at (bit_or a b) g ≡ 1
or_left a b g h = raise _ _ _ (bit_at_or a b g) h (bit_at-lt b g)
  where
    raise : (x y z : ℕ) → z ≡ max x y → x ≡ 1 → y < 2 → z ≡ 1
    raise x y z e h lt = grind arith

pub or_right : (a b g : ℕ) → bit_at b g ≡ 1 → bit_at (bit_or a b) g ≡ 1
or_right a b g h = raise _ _ _ (bit_at_or a b g) h (bit_at-lt a g)
  where
    raise : (x y z : ℕ) → z ≡ max x y → y ≡ 1 → x < 2 → z ≡ 1
    raise x y z e h lt = grind arith

pub or_cases : (a b g : ℕ) → bit_at (bit_or a b) g ≡ 1 → (bit_at a g ≡ 1) ⊎ (bit_at b g ≡ 1)
or_cases a b g h = at_most _ _ _ (bit_at_or a b g) h
  where
    at_most : (x y z : ℕ) → z ≡ max x y → z ≡ 1 → (x ≡ 1) ⊎ (y ≡ 1)
    at_most x y z e h = grind arith

pub and_both : (a b g : ℕ) → bit_at a g ≡ 1 → bit_at b g ≡ 1 → bit_at (bit_and a b) g ≡ 1
and_both a b g h k = low _ _ _ (bit_at_and a b g) h k
  where
    low : (x y z : ℕ) → z ≡ min x y → x ≡ 1 → y ≡ 1 → z ≡ 1
    low x y z e h k = grind arith

pub both_bits : (m f g : ℕ) → bit_at (bit_and m f) g ≡ 1 → (bit_at m g ≡ 1) × (bit_at f g ≡ 1)
both_bits m f g h = at_least _ _ _ (bit_at_and m f g) h (bit_at-lt m g) (bit_at-lt f g)
  where
    at_least : (x y z : ℕ) → z ≡ min x y → z ≡ 1 → x < 2 → y < 2 → (x ≡ 1) × (y ≡ 1)
    at_least x y z e h a b = (omega arith, omega arith)

pub zero_bit : (g : ℕ) → bit_at 0 g ≡ 1 → ⊥
zero_bit g h = let e = bit_at-zero g in omega arith

-- the test of one bit
pub bit_set : (m h : ℕ) → bit_and (m / 2 ^ h) 1 ≡ 1 → bit_at m h ≡ 1
bit_set m h e = sym (shr_and_one m h) ∙ e

pub bit_clear : (m h : ℕ) → (bit_and (m / 2 ^ h) 1 ≡ 1 → ⊥) → bit_at m h ≡ 1 → ⊥
bit_clear m h e x = e (shr_and_one m h ∙ x)
