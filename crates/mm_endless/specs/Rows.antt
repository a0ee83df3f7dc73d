-- Rows of numbers, kept in one list with the ends of each.
use Rattle.std.specs.Prelude.{◌≡◌, ℕ, zero, suc, ◌≤◌, List, [], ◌∷◌, slice_range, slice_index_or}

-- the rows of a list that end at these places; the first begins at `from`
abbrev pub rows_from : List ℕ → ℕ → List ℕ → List (List ℕ)
rows_from xs from [] = []
rows_from xs from (end ∷ ends) = slice_range xs from end ∷ rows_from xs end ends

-- the ends ascend from one number to another
abbrev pub Ascend : ℕ → List ℕ → ℕ → Type 0
Ascend from [] last = from ≡ last
Ascend from (end ∷ ends) last = (from ≤ end) × Ascend end ends last

-- where the row of a number begins
abbrev pub begin_of : List ℕ → ℕ → ℕ
begin_of ends zero = 0
begin_of ends (suc k) = slice_index_or ends k 0
