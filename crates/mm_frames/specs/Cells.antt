-- The cells of a frame.
use Rattle.std.specs.{Prelude.{◌≡◌, List, [], ◌∷◌, ◌++◌, length}, List.AllByRecursion}
use Rattle.mm_word.specs.declared.word.Cell.{Cell}

-- the cells of blocks, one block after another
abbrev pub cells_of : List (List Cell) → List Cell
cells_of [] = []
cells_of (block ∷ blocks) = block ++ cells_of blocks

-- 64 blocks of eight cells
pub record AreBlocks (blocks : List (List Cell)) : Type 0 where
  pub many : length blocks ≡ 64
  pub whole : AllByRecursion (λ block. length block ≡ 8) blocks
