-- What is read of a cached memory.
use Rattle.std.proofs.Common.{◌≡◌, ℕ, ◌%◌, ◌<◌, ◌==◌, Bool, true, false, if◌then◌else◌, List, [], ◌∷◌, zero, suc}
use Rattle.std.proofs.Common.{length, Option, None, Some, is_some, slice_get, refl, sym, ap, arith, ◌∙◌}
use Rattle.std.specs.Option.{IfNone}
use Rattle.mm_word.specs.declared.word.Cell.{Cell}
use Rattle.mm_model.specs.Memory.{Memory, IsPaged, page_at, is_mapped, cell_at, cell_in, page_of, place_of}
use Rattle.mm_model.{specs.Counted.{block_of, line_of, page_of_block}, proofs.Memories.{cell_at-aligned, page_whole}}
use Rattle.mm_mem.proofs.Flats.{no_cell}
use Rattle.mm_frames.{specs.Framed.{frame_of, memory_of}, proofs.Framed.has_frame_is_mapped}
use Rattle.mm_cache.specs.declared.line.CacheLine.{CacheLine}
use Rattle.mm_cache.specs.{Lines.{AreLines, line_in, is_in, hits, cell_in_line, cell_of, place_in_block}, Over.over}
use Rattle.mm_cache.proofs.{Laid.mapped_over, Blocks.page_there, ReadCells.{line_hit, cell_hit, reads_are_over}}
use Rattle.mm_vmem.specs.Cached.{Cached, IsCached, meaning}

-- 1. Lines.

get_within : {A : Type 0} (xs : List A) (n : ℕ) → n < length xs → (x : A) × (slice_get xs n ≡ Some x)
get_within [] n lt = absurd (omega (arith, lt))
get_within (x ∷ xs) zero lt = (x, refl)
get_within (x ∷ xs) (suc n) lt = get_within xs n (omega (arith, lt))

block_in_line : (o : Option CacheLine) (w : ℕ) (c : Cell) → cell_in_line o w ≡ Some c → is_in o (block_of w) ≡ true
block_in_line None w c is = cc
block_in_line (Some l) w c is = by (l.block == block_of w) is
  where
    by : (b : Bool) → (if b then slice_get l.cells (place_in_block w) else None) ≡ Some c → b ≡ true
    by true h = refl
    by false h = cc

-- a cell that is found in a line is a hit
pub cell_is_hit : (ls : List (Option CacheLine)) (w : ℕ) (c : Cell) → cell_of ls w ≡ Some c → hits ls (block_of w) ≡ true
cell_is_hit ls w c is = block_in_line (line_in ls (line_of (block_of w))) w c is

-- at a hit a cell is found
pub hit_has_cell : (ls : List (Option CacheLine)) (w : ℕ) → AreLines ls → hits ls (block_of w) ≡ true → (c : Cell) × (cell_of ls w ≡ Some c)
hit_has_cell ls w are hit =
    let l = line_hit ls (block_of w) hit in
    let whole : length l.0.cells ≡ 8 = are.whole (line_of (block_of w)) l.0 l.1 in
    let c = get_within l.0.cells (place_in_block w) (omega (arith, whole)) in
    (c.0, cell_hit ls w l.0 l.1 l.2 ∙ c.1)

pub no_cell_no_hit : (ls : List (Option CacheLine)) (w : ℕ) → AreLines ls → cell_of ls w ≡ None → hits ls (block_of w) ≡ false
no_cell_no_hit ls w are none = by (hits ls (block_of w)) refl
  where
    by : (b : Bool) → hits ls (block_of w) ≡ b → b ≡ false
    by true hit = absurd (let c = hit_has_cell ls w are hit in cc (c.1, none))
    by false miss = refl

-- 2. The memory.

pub same_page : (w : ℕ) → page_of_block (block_of w) ≡ page_of w
same_page w = omega arith

-- a word whose page has no frame has no cell
pub no_frame_no_cell : (m : Cached) (w : ℕ) → frame_of m.frames (page_of_block (block_of w)) ≡ None → cell_at (meaning m) w ≡ None
unfolding meaning
no_frame_no_cell m w none =
    let mapped : is_mapped (over (memory_of m.frames) m.lines) (page_of w) ≡ false =
    mapped_over (memory_of m.frames) m.lines (page_of w) ∙ sym (has_frame_is_mapped m.frames (page_of w)) ∙ ap is_some (ap (frame_of m.frames) (sym (same_page w)) ∙ none) in
    no_cell (over (memory_of m.frames) m.lines) w (absent (page_at (over (memory_of m.frames) m.lines) (page_of w)) mapped)
  where
    absent : (o : Option (List Cell)) → is_some o ≡ false → o ≡ None
    absent None h = refl
    absent (Some cells) h = cc

-- a word of a mapped page has a cell
pub mapped_has_cell : (m : Memory) (w : ℕ) → IsPaged m → w % 8 ≡ 0 → is_mapped m (page_of w) ≡ true → (c : Cell) × (cell_at m w ≡ Some c)
mapped_has_cell m w paged aligned mapped =
    let page = page_there m (page_of w) mapped in
    let whole : length page.0 ≡ 512 = (page_whole m paged (page_of w) page.0 page.1).cells in
    let c = get_within page.0 (place_of w) (omega (arith, whole)) in
    (c.0, cell_at-aligned m w aligned ∙ ap (λ (o : Option (List Cell)). cell_in o (place_of w)) page.1 ∙ c.1)

-- at a hit the cell of the line is read
pub read_there : (m : Cached) (w : ℕ) → IsCached m → w % 8 ≡ 0 → hits m.lines (block_of w) ≡ true → cell_at (meaning m) w ≡ cell_of m.lines w
unfolding meaning
read_there m w held aligned hit =
    let l = line_hit m.lines (block_of w) hit in
    let mapped : is_mapped (memory_of m.frames) (page_of w) ≡ true =
    ap (is_mapped (memory_of m.frames)) (sym (ap page_of_block l.2 ∙ same_page w)) ∙ (held.cover.lie (line_of (block_of w)) l.0 l.1).mapped in
    let c = mapped_has_cell (memory_of m.frames) w held.cover.paged aligned mapped in
    reads_are_over.hit (memory_of m.frames) m.lines w c.0 held.cover c.1 hit

-- else the cell is that of the frame
pub read_missing : (m : Cached) (w : ℕ) → IsCached m → hits m.lines (block_of w) ≡ false → cell_at (meaning m) w ≡ cell_at (memory_of m.frames) w
unfolding meaning
read_missing m w held absent = reads_are_over.miss (memory_of m.frames) m.lines w held.cover absent

-- a test that says no
pub none_found : {A : Type 0} (o : Option A) → is_some o ≡ false → o ≡ None
none_found None h = refl
none_found (Some x) h = cc

pub never_none : (P : Type 0) (o : Option Cell) (c : Cell) → o ≡ Some c → IfNone o P
never_none P None c is = cc
never_none P (Some d) c is = tt
