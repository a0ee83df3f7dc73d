-- Packed cells: the 64 bits of each word, and two bytes for eight cells. A bit of the first byte, the tags, says
-- whether a cell holds a pointer, and a bit of the second whether it is full; the lowest bit is for the first cell.
use Rattle.std.specs.Prelude.{◌≡◌, ℕ, ◌<◌, Bool, true, if◌then◌else◌, List, length, map, slice_index}
use Rattle.std.specs.List.{range_with_len}
use Rattle.mm_word.specs.declared.word.{Word.{Word, TheVariants.{Int, Ptr}}, Cell.Cell}
use Rattle.mm_word.specs.Pointer.{pointer_of, SpellsPointer}
use Rattle.mm_model.specs.Flags.{in_mask}

-- the word of these bits: a pointer if it is tagged
abbrev pub word_of : ℕ → Bool → Word
word_of bits tagged = if tagged then Ptr (pointer_of bits) else Int bits

-- the cell of these bits, for which bit i of two bytes says whether it holds a pointer and whether it is full
abbrev pub cell_from : (bits tags fulls i : ℕ) → Cell
cell_from bits tags fulls i = record { word = word_of bits (in_mask tags i); full = in_mask fulls i }

-- the cell at a place of a block
abbrev pub cell_of_block : (bits : List ℕ) (tags fulls index : ℕ) → Cell
cell_of_block bits tags fulls index = cell_from (slice_index bits index) tags fulls index

-- the eight cells of a block
unfoldable pub block_of : (bits : List ℕ) (tags fulls : ℕ) → List Cell
block_of bits tags fulls = map (cell_of_block bits tags fulls) (range_with_len 0 8)

-- a packed block: eight words and two bytes; each tagged word spells a pointer
pub record IsPackedBlock (bits : List ℕ) (tags fulls : ℕ) : Type 0 where
  pub words : length bits ≡ 8
  pub tag_byte : tags < 256
  pub full_byte : fulls < 256
  pub pointers : (index : ℕ) → index < 8 → in_mask tags index ≡ true → SpellsPointer (slice_index bits index)
