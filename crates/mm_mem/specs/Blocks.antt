-- Blocks of eight cells, in the cells of a page and in a memory. The number of a block is its address divided by 64.
use Rattle.std.specs.{Prelude.{ℕ, ◌+◌, ◌*◌, ◌%◌, List, ◌++◌, take, drop, Option, None, Some}, Ordering.nat_cmp}
use Rattle.std.specs.FinMap.{put}
use Rattle.mm_word.specs.declared.word.Cell.{Cell}
use Rattle.mm_model.specs.{Memory.{Memory, page_at}, Counted.page_of_block}

-- the index of a block among those of its page
abbrev pub place_of_block : ℕ → ℕ
place_of_block block = block % 64

-- the cells of the block at this index
abbrev pub block_in : List Cell → ℕ → List Cell
block_in cells block_index = take 8 (drop (block_index * 8) cells)

-- the cells with these in the block at this index
abbrev pub with_block : List Cell → ℕ → List Cell → List Cell
with_block cells block_index new = take (block_index * 8) cells ++ new ++ drop (block_index * 8 + 8) cells

abbrev pub block_of_page : Option (List Cell) → ℕ → Option (List Cell)
block_of_page None block = None
block_of_page (Some cells) block = Some (block_in cells (place_of_block block))

-- the cells of a block, if its page is mapped
abbrev pub block_at : Memory → ℕ → Option (List Cell)
block_at m block = block_of_page (page_at m (page_of_block block)) block

abbrev pub put_in_page : Memory → Option (List Cell) → ℕ → List Cell → Memory
put_in_page m None block new = m
put_in_page m (Some cells) block new = record m
    { pages = put nat_cmp (page_of_block block) (with_block cells (place_of_block block) new) m.pages }

-- the memory with these cells in a block of a mapped page
unfoldable pub put_block : Memory → ℕ → List Cell → Memory
put_block m block new = put_in_page m (page_at m (page_of_block block)) block new
