-- Blocks that are a frame's cells, read and written.
use Rattle.std.proofs.Common.{◌≡◌, ℕ, ◌+◌, ◌-◌, ◌*◌, ◌/◌, ◌%◌, ◌<◌, List, [], ◌∷◌, ◌++◌, zero, suc, length, take, drop}
use Rattle.std.proofs.Common.{get_or, set, replicate, Some, slice_get, refl, sym, ap, ◌∙◌, arith}
use Rattle.std.proofs.lemmas.List.{length-append, length-take-le, length-drop, get_or-take, get_or-drop, take_at}
use Rattle.std.proofs.lemmas.{List.{drop_at, append_assoc, replicate-append-replicate}, Option.slice_get-get_or}
use Rattle.std.{proofs.Math.Seq.{take-add, take-append-add, drop-append-add}, specs.List.AllByRecursion}
use Rattle.mm_word.specs.declared.word.Cell.{Cell}
use Rattle.mm_model.specs.Memory.{zero_cell, zero_page}
use Rattle.mm_mem.{specs.Blocks.{block_in, with_block}, proofs.Blocks.length_with_block}
use Rattle.mm_frames.specs.Cells.{cells_of}

-- 1. Blocks of eight cells.

abbrev pub AreEight : List (List Cell) → Type 0
AreEight blocks = AllByRecursion (λ (block : List Cell). length block ≡ 8) blocks

pub length-cells_of : (blocks : List (List Cell)) → AreEight blocks → length (cells_of blocks) ≡ length blocks * 8
length-cells_of [] all = refl
length-cells_of (b ∷ blocks) all = omega (arith, all.0, length-append b (cells_of blocks), length-cells_of blocks all.1)

pub eight_at : (blocks : List (List Cell)) (index : ℕ) → AreEight blocks → index < length blocks → length (get_or blocks index []) ≡ 8
eight_at [] index all lt = absurd (omega (arith, lt))
eight_at (b ∷ blocks) zero all lt = all.0
eight_at (b ∷ blocks) (suc index) all lt = eight_at blocks index all.1 (omega (arith, lt))

pub eight_set : (blocks : List (List Cell)) (index : ℕ) (new : List Cell) → AreEight blocks → length new ≡ 8 → AreEight (set blocks index new)
eight_set [] index new all eight = all
eight_set (b ∷ blocks) zero new all eight = (eight, all.1)
eight_set (b ∷ blocks) (suc index) new all eight = (all.0, eight_set blocks index new all.1 eight)

-- 2. A block is read.

module _ (b cells : List Cell) (eight : length b ≡ 8) where
  take_more : (index : ℕ) → take (suc index * 8) (b ++ cells) ≡ b ++ take (index * 8) cells
  take_more index =
      let sum : suc index * 8 ≡ length b + index * 8 = omega (arith, eight) in
      ap (λ n. take n (b ++ cells)) sum ∙ take-append-add b cells (index * 8)

  drop_more : (index more : ℕ) → drop (suc index * 8 + more) (b ++ cells) ≡ drop (index * 8 + more) cells
  drop_more index more =
      let sum : suc index * 8 + more ≡ length b + (index * 8 + more) = omega (arith, eight) in
      ap (λ n. drop n (b ++ cells)) sum ∙ drop-append-add b cells (index * 8 + more)

  drop_on : (index : ℕ) → drop (suc index * 8) (b ++ cells) ≡ drop (index * 8) cells
  drop_on index =
      let sum : suc index * 8 ≡ length b + index * 8 = omega (arith, eight) in
      ap (λ n. drop n (b ++ cells)) sum ∙ drop-append-add b cells (index * 8)

pub block_read : (blocks : List (List Cell)) (index : ℕ) → AreEight blocks → index < length blocks → get_or blocks index [] ≡ block_in (cells_of blocks) index
block_read [] index all lt = absurd (omega (arith, lt))
block_read (b ∷ blocks) zero all lt = sym (take_at b (cells_of blocks) 8 all.0)
block_read (b ∷ blocks) (suc index) all lt = block_read blocks index all.1 (omega (arith, lt)) ∙ ap (take 8) (sym (drop_on b (cells_of blocks) all.0 index))

-- a cell is read in its block
pub cell_read : (blocks : List (List Cell)) (index : ℕ) → AreEight blocks → index < length blocks * 8 → slice_get (cells_of blocks) index ≡ slice_get (get_or blocks (index / 8) []) (index % 8)
cell_read blocks index all lt =
    let cells : List Cell = cells_of blocks in
    let block : List Cell = get_or blocks (index / 8) [] in
    let within : index / 8 < length blocks = omega (arith, lt) in
    let low : index % 8 < 8 = omega arith in
    let sum : index / 8 * 8 + index % 8 ≡ index = omega arith in
    slice_get-get_or cells index zero_cell (omega (arith, lt, length-cells_of blocks all))
    ∙ ap (λ n. Some (get_or cells n zero_cell)) (sym sum)
    ∙ ap Some (sym (get_or-take 8 (drop (index / 8 * 8) cells) (index % 8) zero_cell low ∙ get_or-drop (index / 8 * 8) cells (index % 8) zero_cell))
    ∙ ap (λ xs. Some (get_or xs (index % 8) zero_cell)) (sym (block_read blocks (index / 8) all within))
    ∙ sym (slice_get-get_or block (index % 8) zero_cell (omega (arith, low, eight_at blocks (index / 8) all within)))

-- 3. A block is written.

pub block_put : (blocks : List (List Cell)) (index : ℕ) (new : List Cell) → AreEight blocks → index < length blocks → cells_of (set blocks index new) ≡ with_block (cells_of blocks) index new
block_put [] index new all lt = absurd (omega (arith, lt))
block_put (b ∷ blocks) zero new all lt = ap (λ xs. new ++ xs) (sym (drop_at b (cells_of blocks) 8 all.0))
block_put (b ∷ blocks) (suc index) new all lt =
    let cells : List Cell = cells_of blocks in
    let front : List Cell = take (index * 8) cells in
    let rest : List Cell = drop (index * 8 + 8) cells in
    ap (λ xs. b ++ xs) (block_put blocks index new all.1 (omega (arith, lt)))
    ∙ sym (append_assoc b (front ++ new) rest)
    ∙ ap (λ xs. xs ++ rest) (sym (append_assoc b front new))
    ∙ ap (λ xs. xs ++ new ++ rest) (sym (take_more b cells all.0 index))
    ∙ ap (λ xs. take (suc index * 8) (b ++ cells) ++ new ++ xs) (sym (drop_more b cells all.0 index 8))

-- 4. Zeros.

zero_cells : (n : ℕ) → cells_of (replicate n (replicate 8 zero_cell)) ≡ replicate (n * 8) zero_cell
zero_cells zero = refl
zero_cells (suc n) =
    let sum : 8 + n * 8 ≡ suc n * 8 = omega arith in
    ap (λ xs. replicate 8 zero_cell ++ xs) (zero_cells n)
    ∙ replicate-append-replicate 8 (n * 8) zero_cell
    ∙ ap (λ k. replicate k zero_cell) sum

pub zero_frame : cells_of (replicate 64 (replicate 8 zero_cell)) ≡ zero_page
zero_frame = zero_cells 64

-- 5. A page is copied block by block.

-- the cells of a page that go into a block are eight
pub eight_of_page : (cells : List Cell) (index : ℕ) → index < 64 → length cells ≡ 512 → length (take (index * 8 + 8 - index * 8) (drop (index * 8) cells)) ≡ 8
eight_of_page cells index lt long =
    let eight : index * 8 + 8 - index * 8 ≡ 8 = omega arith in
    ap (λ n. length (take n (drop (index * 8) cells))) eight ∙ length-take-le 8 (drop (index * 8) cells) (omega (arith, lt, long, length-drop (index * 8) cells))

pub front_more : (old cells new : List Cell) (index : ℕ) → index < 64 → length old ≡ 512 → length cells ≡ 512 → new ≡ take (index * 8 + 8 - index * 8) (drop (index * 8) cells)
    → take (index * 8) old ≡ take (index * 8) cells → take ((index + 1) * 8) (with_block old index new) ≡ take ((index + 1) * 8) cells
front_more old cells new index lt whole long is so_far =
    let eight : index * 8 + 8 - index * 8 ≡ 8 = omega arith in
    let next : index * 8 + 8 ≡ (index + 1) * 8 = omega arith in
    let part : new ≡ take 8 (drop (index * 8) cells) = is ∙ ap (λ n. take n (drop (index * 8) cells)) eight in
    let size : length new ≡ 8 = ap length is ∙ eight_of_page cells index lt long in
    let count : length (take (index * 8) old ++ new) ≡ (index + 1) * 8 = omega (arith, size, length-append (take (index * 8) old) new, length-take-le (index * 8) old (omega (arith, whole))) in
    take_at (take (index * 8) old ++ new) (drop (index * 8 + 8) old) ((index + 1) * 8) count
    ∙ ap (λ xs. xs ++ new) so_far
    ∙ ap (λ xs. take (index * 8) cells ++ xs) part
    ∙ sym (take-add (index * 8) 8 cells)
    ∙ ap (λ n. take n cells) next

pub whole_with_block : (old new : List Cell) (index : ℕ) → index < 64 → length old ≡ 512 → length new ≡ 8 → length (with_block old index new) ≡ 512
whole_with_block old new index lt whole eight = length_with_block old new index whole eight lt
