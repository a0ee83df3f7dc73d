-- Pages in frames.
use Rattle.std.specs.Prelude.{◌≡◌, ℕ, ◌+◌, ◌^◌, ◌==◌, ◌<◌, nat_lt, not, List, [], ◌∷◌, map, length, slice_index_or}
use Rattle.std.specs.{Prelude.{slice_set, Option, Some}, List.filter, Ordering.nat_cmp, FinMap.{find, put}}
use Rattle.mm_word.specs.declared.word.Cell.{Cell}
use Rattle.mm_model.specs.{Flags.one_if, Memory.{Memory, IsPaged, zero_page}}
use Rattle.mm_mem.specs.Blocks.{with_block}

-- frames, as contracts see them
pub record Framed : Type 0 where
  -- each mapped page with the number of its frame, by rising number of the page
  pub rows : List (ℕ × ℕ)
  -- the cells of each frame
  pub cells : List (List Cell)
  -- the counts of blocks that were read and written
  pub reads : ℕ
  pub writes : ℕ

-- the frame of a page, if it is mapped
abbrev pub frame_of : Framed → ℕ → Option ℕ
frame_of f page = find nat_cmp page f.rows

abbrev pub cells_in : Framed → ℕ → List Cell
cells_in f frame = slice_index_or f.cells frame []

-- the mapped pages, each with the cells of its frame
unfoldable pub memory_of : Framed → Memory
memory_of f = record { pages = map (λ row. (row.0, cells_in f row.1)) f.rows; frames = length f.cells }

-- a mapped page occupies this frame
pub record IsOccupied (f : Framed) (frame : ℕ) : Type 0 where
  pub page : ℕ
  pub is : frame_of f page ≡ Some frame

-- no mapped page occupies this frame
pub record IsFree (f : Framed) (frame : ℕ) : Type 0 where
  pub in_range : frame < length f.cells
  pub no_page : (page : ℕ) → frame_of f page ≡ Some frame → ⊥

-- The frames after each call that changes them.

-- the frames after a page was mapped to a frame, which then holds integer zeros, full
abbrev pub seated : Framed → ℕ → ℕ → Framed
seated f page frame = record f { rows = put nat_cmp page frame f.rows; cells = slice_set f.cells frame zero_page }

-- the frames after a page was removed
abbrev pub without : Framed → ℕ → Framed
without f page = record f { rows = filter (λ row. not (row.0 == page)) f.rows }

-- the frames after a block of a frame was written
abbrev pub written : Framed → ℕ → ℕ → List Cell → Framed
written f frame block_index new = record f {
  cells = slice_set f.cells frame (with_block (cells_in f frame) block_index new);
  writes = f.writes + 1;
}

-- What holds of frames and of the list of free ones.

-- how often a number is in a list
abbrev pub times : ℕ → List ℕ → ℕ
times n [] = 0
times n (m ∷ ms) = one_if (n == m) + times n ms

-- the count of rows with this frame
abbrev pub rows_with : ℕ → List (ℕ × ℕ) → ℕ
rows_with frame [] = 0
rows_with frame (row ∷ rows) = one_if (frame == row.1) + rows_with frame rows

-- pages are whole and in order, and each frame is either free or the frame of one page
pub record IsFramed (f : Framed) (free : List ℕ) : Type 0 where
  pub paged : IsPaged (memory_of f)
  pub small : length f.cells < 2 ^ 32
  pub counted : length f.rows + length free ≡ length f.cells
  pub once : (frame : ℕ) → rows_with frame f.rows + times frame free ≡ one_if (nat_lt frame (length f.cells))
