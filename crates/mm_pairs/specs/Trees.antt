-- Pairs of names, and the full binary trees whose inner nodes they are.
use Rattle.std.specs.Prelude.{◌≡◌, ℕ, zero, suc, ◌+◌, ◌≤◌, ◌==◌, if◌then◌else◌, List, [], ◌∷◌, ◌++◌, length}
use Rattle.mm_pairs.specs.Named.{named}

-- the pair of a name. That of 0 and 0 is not kept.
abbrev pub pair_of : List (ℕ × ℕ) → ℕ → ℕ × ℕ
pair_of pairs name = named (0, 0) pairs name

-- the names at the leaves of a tree, from the left
abbrev pub leaves : List (ℕ × ℕ) → (depth tree : ℕ) → List ℕ
leaves pairs zero tree = tree ∷ []
leaves pairs (suc depth) tree =
    leaves pairs depth (pair_of pairs tree).0 ++ leaves pairs depth (pair_of pairs tree).1

-- each inner node of a tree is the name of a pair
abbrev pub IsTree : List (ℕ × ℕ) → (depth tree : ℕ) → Type 0
IsTree pairs zero tree = Unit {0}
IsTree pairs (suc depth) tree =
    (tree ≤ length pairs) × IsTree pairs depth (pair_of pairs tree).0 × IsTree pairs depth (pair_of pairs tree).1

-- a tree has these leaves
pub record HasLeaves (pairs : List (ℕ × ℕ)) (depth tree : ℕ) (names : List ℕ) : Type 0 where
  pub inner : IsTree pairs depth tree
  pub leaves : leaves pairs depth tree ≡ names

-- the places, from a first one on, at which a list of names differs from another as long, each with its name there
abbrev pub changed : ℕ → (was names : List ℕ) → List (ℕ × ℕ)
changed at (a ∷ was) (b ∷ names) = if a == b then changed (at + 1) was names else (at, b) ∷ changed (at + 1) was names
changed at _ _ = []

-- trees with the same leaves have the same name
abbrev pub TreesAreApart : List (ℕ × ℕ) → Type 0
TreesAreApart pairs =
    (depth a b : ℕ) → IsTree pairs depth a → IsTree pairs depth b → leaves pairs depth a ≡ leaves pairs depth b → a ≡ b
