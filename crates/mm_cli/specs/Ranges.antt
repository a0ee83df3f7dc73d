-- Ranges of addresses.
use Rattle.std.specs.Prelude.{◌≡◌, ℕ, ◌%◌, ◌^◌, ◌-◌, ◌<◌, ◌≤◌}

-- a range of `2 ^ log` addresses, at least a word, whose base is a multiple of its length
abbrev pub IsRange : (base log : ℕ) → Type 0
IsRange base log = (base ≤ 2 ^ 54 - 1) × (3 ≤ log) × (log ≤ 54) × (base % 2 ^ log ≡ 0)

-- the address of a word
abbrev pub IsWordAddress : ℕ → Type 0
IsWordAddress n = (n % 8 ≡ 0) × (n < 2 ^ 54)
