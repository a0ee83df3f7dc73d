-- What the lines of a cache hold.
use Rattle.std.specs.Prelude.{◌≡◌, ℕ, ◌/◌, ◌%◌, ◌==◌, Bool, true, false, if◌then◌else◌, List, map, length, Option, None}
use Rattle.std.specs.Prelude.{Some, slice_get, slice_set}
use Rattle.mm_word.specs.declared.word.Cell.{Cell}
use Rattle.mm_model.specs.Counted.{block_of, line_of, page_of_block}
use Rattle.mm_cache.specs.declared.line.{CacheLine.CacheLine, Victim.Victim}

-- the index of a word's cell in its block
abbrev pub place_in_block : ℕ → ℕ
place_in_block word = word % 64 / 8

abbrev pub flat_line : Option (Option CacheLine) → Option CacheLine
flat_line None = None
flat_line (Some line) = line

-- the line with this index
abbrev pub line_in : List (Option CacheLine) → ℕ → Option CacheLine
line_in lines i = flat_line (slice_get lines i)

-- whether a line has this block
abbrev pub is_in : Option CacheLine → ℕ → Bool
is_in None block = false
is_in (Some l) block = l.block == block

-- whether a block is in its line
abbrev pub hits : List (Option CacheLine) → ℕ → Bool
hits lines block = is_in (line_in lines (line_of block)) block

abbrev pub cell_in_line : Option CacheLine → ℕ → Option Cell
cell_in_line None word = None
cell_in_line (Some l) word = if l.block == block_of word then slice_get l.cells (place_in_block word) else None

-- the cell of a word, if its block is in its line
abbrev pub cell_of : List (Option CacheLine) → ℕ → Option Cell
cell_of lines word = cell_in_line (line_in lines (line_of (block_of word))) word

-- the block of a line, if it has to be written back
abbrev pub victim_of : Option CacheLine → Option Victim
victim_of None = None
victim_of (Some l) = if l.dirty then Some (record { block = l.block; cells = l.cells }) else None

-- the line itself, if its block has to be written back
abbrev pub dirty_in : Option CacheLine → Option CacheLine
dirty_in None = None
dirty_in (Some l) = if l.dirty then Some l else None

abbrev pub line_with : Option CacheLine → ℕ → Cell → Option CacheLine
line_with None word c = None
line_with (Some l) word c = if l.block == block_of word then Some
    (record { block = l.block; dirty = true; cells = slice_set l.cells (place_in_block word) c }) else Some l

-- the lines with this cell at this word and its line dirty, if its block is there
abbrev pub with_cell : List (Option CacheLine) → ℕ → Cell → List (Option CacheLine)
with_cell lines word c = slice_set lines (line_of (block_of word))
    (line_with (line_in lines (line_of (block_of word))) word c)

-- the lines with a block in its line, clean
abbrev pub filled : List (Option CacheLine) → ℕ → List Cell → List (Option CacheLine)
filled lines block cells = slice_set lines (line_of block)
    (Some (record { block = block; dirty = false; cells = cells }))

abbrev pub emptied : List (Option CacheLine) → ℕ → List (Option CacheLine)
emptied lines i = slice_set lines i None

abbrev pub line_without : ℕ → Option CacheLine → Option CacheLine
line_without page None = None
line_without page (Some l) = if page_of_block l.block == page then None else Some l

-- the lines without the blocks of a page
abbrev pub without_page : ℕ → List (Option CacheLine) → List (Option CacheLine)
without_page page lines = map (line_without page) lines

-- 64 lines; each block is in its own line, and has eight cells
pub record AreLines (lines : List (Option CacheLine)) : Type 0 where
  pub many : length lines ≡ 64
  pub placed : (i : ℕ) (l : CacheLine) → line_in lines i ≡ Some l → line_of l.block ≡ i
  pub whole : (i : ℕ) (l : CacheLine) → line_in lines i ≡ Some l → length l.cells ≡ 8
