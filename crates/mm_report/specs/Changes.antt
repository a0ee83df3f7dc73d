-- The lines of changes in memory, cell by cell.
use Rattle.std.specs.{Prelude.{ℕ, ◌+◌, ◌*◌, if◌then◌else◌, List, [], slice_index_or}, List.flat_map}
use Rattle.mm_word.specs.declared.word.Cell.{Cell}
use Rattle.mm_model.specs.{Memory.{Memory, zero_cell, page_at}, Lines.cell_line}
use Rattle.mm_model.specs.Report.{same_cell, changes_from, cells_or_zero}

-- the line of a cell that has changed
abbrev pub change_line : ℕ → Cell → Cell → List ℕ
change_line w c was = if same_cell c was then [] else cell_line w c

-- the line of the cell at an index of a page whose cells begin at a word, if it has changed
abbrev pub line_at : ℕ → List Cell → List Cell → ℕ → List ℕ
line_at w cells was i = change_line (w + 8 * i) (slice_index_or cells i zero_cell) (slice_index_or was i zero_cell)

-- a memory with these pages
abbrev pub contents : List (ℕ × List Cell) → Memory
contents pages = record { pages = pages; frames = 0 }

-- the cells of a page, or zeros if it is not mapped
abbrev pub cells_of : Memory → ℕ → List Cell
cells_of m p = cells_or_zero (page_at m p)

-- the lines of cells, each with its address
abbrev pub lines_of : List (ℕ × Cell) → List ℕ
lines_of cells = flat_map (λ cell. cell_line cell.0 cell.1) cells

-- the lines of a mapped page's cells that have changed
abbrev pub changes_of : Memory → Memory → ℕ → List ℕ
changes_of now was p = lines_of (changes_from (p * 4096) (cells_of now p) (cells_of was p))
