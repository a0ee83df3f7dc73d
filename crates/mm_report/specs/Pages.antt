-- The numbers of the pages of two memories, ascending.
use Rattle.std.specs.Prelude.{ℕ, ◌==◌, if◌then◌else◌, min, List, [], ◌∷◌, map, Option, Some, None}
use Rattle.mm_word.specs.declared.word.Cell.{Cell}

abbrev pub numbers : List (ℕ × List Cell) → List ℕ
numbers pages = map (λ page. page.0) pages

abbrev pub first : List ℕ → Option ℕ
first [] = None
first (x ∷ xs) = Some x

-- the lesser of two numbers, if there are two; otherwise the one that is there
abbrev pub lesser : Option ℕ → Option ℕ → Option ℕ
lesser None y = y
lesser (Some x) None = Some x
lesser (Some x) (Some y) = Some (min x y)

-- the list without its first number, if that is this one
abbrev pub behind : ℕ → List ℕ → List ℕ
behind n [] = []
behind n (x ∷ xs) = if x == n then xs else x ∷ xs
