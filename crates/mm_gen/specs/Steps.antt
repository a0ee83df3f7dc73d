-- What the code that makes an image keeps between its steps.
use Rattle.std.specs.{Prelude.{ℕ, ◌+◌, List, [], ◌∷◌, map}, List.range_with_len}
use Rattle.mm_word.specs.declared.word.Cell.{Cell}
use Rattle.mm_gen.specs.Generated.{nth_number, full_cell, code_page, code_cells, data_page}

-- a cell for each of the `count` numbers after a number in the series
unfoldable pub cells_behind : (number count : ℕ) → List Cell
cells_behind number count = map (λ k. full_cell (nth_number number (k + 1))) (range_with_len 0 count)

-- the pages of a slot, whose data are the numbers after a number in the series
unfoldable pub pages_behind : (number slot : ℕ) → List (ℕ × List Cell)
pages_behind number slot = (code_page slot, code_cells) ∷ (data_page slot, cells_behind number 512) ∷ []
