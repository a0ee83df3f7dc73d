-- Flags as numbers, and numbers as lists of flags, the lowest bit first.
use Rattle.std.specs.{Prelude.{ℕ, zero, suc, ◌+◌, ◌*◌, ◌/◌, ◌%◌, ◌==◌, Bool, if◌then◌else◌, List, [], ◌∷◌}, Int.bit_at}

abbrev pub one_if : Bool → ℕ
one_if b = if b then 1 else 0

-- the k lowest bits of n
abbrev pub flags : ℕ → ℕ → List Bool
flags zero n = []
flags (suc k) n = (n % 2 == 1) ∷ flags k (n / 2)

-- the number whose bits are the flags
abbrev pub number_of_flags : List Bool → ℕ
number_of_flags [] = 0
number_of_flags (b ∷ bs) = one_if b + 2 * number_of_flags bs

-- bit i of the mask is set
abbrev pub in_mask : (mask i : ℕ) → Bool
in_mask mask i = bit_at mask i == 1
