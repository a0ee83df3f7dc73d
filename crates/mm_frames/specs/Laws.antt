-- What holds of blocks.
use Rattle.std.specs.Prelude.{◌≡◌, ◌≢◌, ℕ, true, List, length, Some}
use Rattle.mm_word.specs.declared.word.Cell.{Cell}
use Rattle.mm_model.specs.{Memory.{Memory, IsPaged, is_mapped}, Counted.page_of_block}
use Rattle.mm_mem.specs.Blocks.{block_at, put_block}

-- a block that was written is read again, and each other block stays
pub record BlocksAreKept : Type 0 where
  pub own : (m : Memory) (block : ℕ) (new : List Cell) → IsPaged m → is_mapped m (page_of_block block) ≡ true
      → length new ≡ 8 → block_at (put_block m block new) block ≡ Some new
  pub other : (m : Memory) (block b : ℕ) (new : List Cell) → IsPaged m → length new ≡ 8 → b ≢ block
      → block_at (put_block m block new) b ≡ block_at m b
  pub pages : (m : Memory) (block : ℕ) (new : List Cell) (p : ℕ) → is_mapped (put_block m block new) p ≡ is_mapped m p
  pub paged : (m : Memory) (block : ℕ) (new : List Cell) → IsPaged m → length new ≡ 8 → IsPaged (put_block m block new)
