-- Lines laid over a memory: a cell is that of the line that has its block, else the memory's. A page has as many blocks
-- as there are lines, so the cell at place j of a page can only be in the line j / 8.
use Rattle.std.specs.Prelude.{◌≡◌, ℕ, suc, ◌/◌, ◌%◌, ◌==◌, true, false, if◌then◌else◌, List, [], ◌∷◌, Option, None}
use Rattle.std.specs.Prelude.{Some, slice_index_or, map}
use Rattle.mm_word.specs.declared.word.Cell.{Cell}
use Rattle.mm_model.specs.{Memory.{Memory, is_mapped}, Counted.page_of_block}
use Rattle.mm_mem.specs.Blocks.{block_at}
use Rattle.mm_cache.specs.{declared.line.CacheLine.CacheLine, Lines.line_in}

-- the cell at a place of a page, as it is read through a line
abbrev pub over_cell : Option CacheLine → ℕ → ℕ → Cell → Cell
over_cell None page cell_index c = c
over_cell (Some l) page cell_index c = if page_of_block l.block == page then slice_index_or l.cells (cell_index % 8) c else c

-- the cells of a page from a place on, as they are read through the lines
abbrev pub lay : List (Option CacheLine) → ℕ → ℕ → List Cell → List Cell
lay lines page cell_index [] = []
lay lines page cell_index (c ∷ cells) = over_cell (line_in lines (cell_index / 8)) page cell_index c ∷ lay lines page (suc cell_index) cells

-- the memory that is read through the lines
unfoldable pub over : Memory → List (Option CacheLine) → Memory
over m lines = record m { pages = map (λ e. (e.0, lay lines e.0 0 e.1)) m.pages }

-- a line's page is mapped, and the line has the memory's cells if it is clean
pub record Holds (m : Memory) (l : CacheLine) : Type 0 where
  pub mapped : is_mapped m (page_of_block l.block) ≡ true
  pub clean : l.dirty ≡ false → block_at m l.block ≡ Some l.cells

-- each line is of a mapped page, and has the memory's cells if it is clean
abbrev pub LieOver : List (Option CacheLine) → Memory → Type 0
LieOver lines m = (i : ℕ) (l : CacheLine) → line_in lines i ≡ Some l → Holds m l
