-- Outputs that are kept.
use Rattle.std.specs.Prelude.{ℕ, ◌+◌, ◌≤◌, List, [], ◌∷◌}

-- from an index on, each of the pairs is of a name of one before it, and of one more than a byte
abbrev pub Rise : ℕ → List (ℕ × ℕ) → Type 0
Rise at [] = Unit {0}
Rise at (p ∷ pairs) = (p.0 ≤ at) × (1 ≤ p.1) × Rise (at + 1) pairs
