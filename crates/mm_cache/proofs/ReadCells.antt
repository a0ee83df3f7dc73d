-- A word that is read in its line, and one whose block is not there.
use Rattle.std.proofs.Common.{◌≡◌, ◌≢◌, ℕ, ◌/◌, ◌%◌, ◌==◌, Bool, true, false, if◌then◌else◌, List, length, get_or}
use Rattle.std.proofs.Common.{Option, None, Some, slice_get, option_map, refl, sym, ap, arith, ◌∙◌, inl, inr}
use Rattle.std.proofs.lemmas.{Bool.Decides.nat_tests, Option.slice_get-get_or}
use Rattle.mm_word.specs.declared.word.Cell.{Cell}
use Rattle.mm_model.specs.Memory.{Memory, page_of, place_of, page_at, cell_in, cell_at}
use Rattle.mm_model.specs.Counted.{block_of, line_of, page_of_block}
use Rattle.mm_model.proofs.Memories.{aligned, cell_at-aligned, cell_at-unaligned, word_or_none}
use Rattle.mm_cache.specs.declared.line.CacheLine.{CacheLine}
use Rattle.mm_cache.specs.{Lines.{line_in, is_in, hits, cell_in_line, cell_of, place_in_block}, Over.{over_cell, over}}
use Rattle.mm_cache.{specs.Laws.{Cover, ReadsAreOver}, proofs.Laid.{seen, shown, hidden}}

in_line : (o : Option CacheLine) (block : ℕ) → is_in o block ≡ true → (l : CacheLine) × (o ≡ Some l) × (l.block ≡ block)
in_line None block h = cc
in_line (Some l) block h = (l, refl, let same : l.block ≡ block = grind (arith, nat_tests, h) in same)

-- the line of a block that is there
pub line_hit : (ls : List (Option CacheLine)) (block : ℕ) → hits ls block ≡ true → (l : CacheLine) × (line_in ls (line_of block) ≡ Some l) × (l.block ≡ block)
line_hit ls block h = in_line (line_in ls (line_of block)) block h

-- the cell of a word that is there is that of its line
pub cell_hit : (ls : List (Option CacheLine)) (w : ℕ) (l : CacheLine) → line_in ls (line_of (block_of w)) ≡ Some l → l.block ≡ block_of w → cell_of ls w ≡ slice_get l.cells (place_in_block w)
cell_hit ls w l is its =
    let test : (l.block == block_of w) ≡ true = grind (arith, nat_tests, its) in
    ap (λ (o : Option CacheLine). cell_in_line o w) is
    ∙ ap (λ (b : Bool). let o : Option Cell = (if b then slice_get l.cells (place_in_block w) else None) in o) test

its_line : (w : ℕ) → place_of w / 8 ≡ line_of (block_of w)
its_line w = omega arith

-- a word in a memory under lines
read : (m : Memory) (ls : List (Option CacheLine)) (w : ℕ) → w % 8 ≡ 0 →
    cell_at (over m ls) w ≡ option_map (over_cell (line_in ls (line_of (block_of w))) (page_of w) (place_of w)) (cell_at m w)
read m ls w a =
    cell_at-aligned (over m ls) w a
    ∙ seen m ls (page_of w) (place_of w)
    ∙ ap (λ (x : ℕ). option_map (over_cell (line_in ls x) (page_of w) (place_of w)) (cell_in (page_at m (page_of w)) (place_of w))) (its_line w)
    ∙ ap (λ (o : Option Cell). option_map (over_cell (line_in ls (line_of (block_of w))) (page_of w) (place_of w)) o) (sym (cell_at-aligned m w a))

pub read_hit : (m : Memory) (ls : List (Option CacheLine)) (w : ℕ) (c : Cell) → Cover ls m → cell_at m w ≡ Some c → hits ls (block_of w) ≡ true → cell_at (over m ls) w ≡ cell_of ls w
read_hit m ls w c cover is hit =
    let found = line_hit ls (block_of w) hit in
    let l : CacheLine = found.0 in
    let its : l.block ≡ block_of w = found.2 in
    let eight : length l.cells ≡ 8 = cover.lines.whole (line_of (block_of w)) l found.1 in
    let here : page_of_block l.block ≡ page_of w = omega (arith, its) in
    let place : place_of w % 8 ≡ place_in_block w = omega arith in
    read m ls w (aligned m w c is)
    ∙ ap (λ (o : Option Cell). option_map (over_cell (line_in ls (line_of (block_of w))) (page_of w) (place_of w)) o) is
    ∙ ap (λ (o : Option CacheLine). Some (over_cell o (page_of w) (place_of w) c)) found.1
    ∙ ap (λ (x : Cell). Some x) (shown l (page_of w) (place_of w) c here)
    ∙ ap (λ (x : ℕ). Some (get_or l.cells x c)) place
    ∙ sym (slice_get-get_or l.cells (place_in_block w) c (omega (arith, eight)))
    ∙ sym (cell_hit ls w l found.1 its)

miss_line : (o : Option CacheLine) (w : ℕ) → ((l : CacheLine) → o ≡ Some l → line_of l.block ≡ line_of (block_of w)) → is_in o (block_of w) ≡ false → (x : Option Cell)
    → option_map (over_cell o (page_of w) (place_of w)) x ≡ x
miss_line o w placed miss None = refl
miss_line None w placed miss (Some d) = refl
miss_line (Some l) w placed miss (Some d) =
    let line : line_of l.block ≡ line_of (block_of w) = placed l refl in
    let other : l.block ≢ block_of w = grind (arith, nat_tests, miss) in
    let apart : page_of_block l.block ≢ page_of w = λ same. other (omega (arith, line, same)) in
    ap (λ (x : Cell). Some x) (hidden l (page_of w) (place_of w) d apart)

pub read_miss : (m : Memory) (ls : List (Option CacheLine)) (w : ℕ) → Cover ls m → hits ls (block_of w) ≡ false → cell_at (over m ls) w ≡ cell_at m w
read_miss m ls w cover miss = elim (word_or_none w) [
  | inl a ↦ read m ls w a ∙ miss_line (line_in ls (line_of (block_of w))) w (λ l is. cover.lines.placed (line_of (block_of w)) l is) miss (cell_at m w)
  | inr odd ↦ cell_at-unaligned (over m ls) w odd ∙ sym (cell_at-unaligned m w odd)
]

pub reads_are_over : ReadsAreOver
reads_are_over = record { hit = read_hit; miss = read_miss }
