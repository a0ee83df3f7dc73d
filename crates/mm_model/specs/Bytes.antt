-- What bytes say: numbers and bits.
use Rattle.std.specs.{Prelude.{ℕ, ◌+◌, ◌*◌, ◌/◌, ◌%◌, ◌^◌, ◌<◌, Bool, ◌==◌, List, take, drop, slice_index}, List.fold}

-- each number of the list is a byte
abbrev pub IsBytes : List ℕ → Type 0
IsBytes bytes = (i : ℕ) → slice_index bytes i < 256

module _ (bytes : List ℕ) where
  -- the number that `size` bytes from an offset on spell, the most significant byte first
  unfoldable pub number_at : (at size : ℕ) → ℕ
  number_at at size = fold (λ n b. n * 256 + b) 0 (take size (drop at bytes))

  -- bit k of the bits from an offset on, the lowest bit of each byte first
  abbrev pub bit_at : (at k : ℕ) → Bool
  bit_at at k = number_at (at + k / 8) 1 / 2 ^ (k % 8) % 2 == 1
