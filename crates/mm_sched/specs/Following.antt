-- The next of a set of numbers, cyclically.
use Rattle.std.specs.{Prelude.{◌≡◌, ◌⊎◌, ℕ, ◌<◌, Bool, true, nat_lt, Option, Some, None}, Int.bit_at}
use Rattle.mm_model.specs.Run.{any_number}

-- n is the least number that passes a test and whose bit is set
pub record IsLeastBit (mask : ℕ) (passes : ℕ → Bool) (n : ℕ) : Type 0 where
  pub small : n < 64
  pub set : bit_at mask n ≡ 1
  pub passed : passes n ≡ true
  pub least : (m : ℕ) → m < n → bit_at mask m ≡ 1 → passes m ≡ true → ⊥

-- no bit above the last number is set
abbrev pub NoBitAbove : ℕ → ℕ → Type 0
NoBitAbove mask last = (m : ℕ) → last < m → bit_at mask m ≡ 1 → ⊥

-- n is the next number after the last one, cyclically, whose bit is set; at the beginning the least
abbrev pub IsNextBit : ℕ → Option ℕ → ℕ → Type 0
IsNextBit mask None n = IsLeastBit mask any_number n
IsNextBit mask (Some last) n = IsLeastBit mask (nat_lt last) n ⊎ (NoBitAbove mask last × IsLeastBit mask any_number n)
