-- What frames and pages are to one another, and the memory of frames after each call.
use Rattle.std.proofs.Common.{◌≡◌, ℕ, ◌+◌, ◌*◌, slice_get, ◌<◌, ◌≤◌, cond, not, ◌==◌, nat_eq, nat_lt, List, [], length}
use Rattle.std.proofs.Common.{slice_index_or, slice_set, Option, None, Some, is_some, refl, sym, ap, ◌∙◌, arith, IsTrue}
use Rattle.std.proofs.lemmas.{Cmp.nat_cmp_total, List.{length-set, get_or-set_same, get_or-set_other}, Bool.ne_eqb}
use Rattle.std.specs.{Option.option_map, Ordering.nat_cmp}
use Rattle.std.specs.FinMap.{put, is_sorted, nat_cmp-IsAntisymmetric, Entries.{find-put, find-where_key}}
use Rattle.std.specs.Cmp.{unsigned_tied}
use Rattle.mm_model.proofs.{OneIf.at_most_one, Memories.cell_at-aligned}
use Rattle.mm_model.specs.Memory.{page_of, place_of, cell_in, cell_at, page_at, is_mapped, map_page, unmap_page}
use Rattle.mm_model.specs.{Memory.zero_page, Counted.page_of_block}
use Rattle.mm_word.specs.declared.word.Cell.{Cell}
use Rattle.mm_mem.proofs.{Places.held, Blocks.put_block-mapped}
use Rattle.mm_mem.specs.Blocks.{place_of_block, block_in, block_of_page, block_at, with_block, put_block}
use Rattle.mm_frames.specs.Framed.{Framed, IsFramed, IsOccupied, IsFree, frame_of, cells_in, memory_of, seated, without}
use Rattle.mm_frames.specs.Framed.{written, times, rows_with}
use Rattle.mm_frames.proofs.Rows.{paired, find_paired, sorted_paired, put_paired, filter_paired, length_paired}
use Rattle.mm_frames.proofs.{Rows.{paired_apart, paired_but_one, found_is_with}, Counts.in_range}

-- 1. Pages and frames.

pub pages_are : (f : Framed) → (memory_of f).pages ≡ paired (cells_in f) f.rows
unfolding memory_of
pages_are f = refl

-- there are as many frames
pub frames_are : (f : Framed) → (memory_of f).frames ≡ length f.cells
unfolding memory_of
frames_are f = refl

-- there are as many pages as rows
pub pages_length : (f : Framed) → length (memory_of f).pages ≡ length f.rows
unfolding memory_of
pages_length f = length_paired (cells_in f) f.rows

pub page_at_is : (f : Framed) (page : ℕ) → page_at (memory_of f) page ≡ option_map (cells_in f) (frame_of f page)
unfolding memory_of
page_at_is f page = find_paired (cells_in f) page f.rows

-- the frame of a page has the cells of the page
pub page_in_frame : (f : Framed) (page frame : ℕ) → frame_of f page ≡ Some frame → page_at (memory_of f) page ≡ Some (cells_in f frame)
page_in_frame f page frame h = page_at_is f page ∙ ap (option_map (cells_in f)) h

-- a block of the page is that of the frame
pub block_in_frame : (f : Framed) (page frame block_index : ℕ) → frame_of f page ≡ Some frame → block_index < 64
    → block_at (memory_of f) (page * 64 + block_index) ≡ Some (block_in (cells_in f frame) block_index)
block_in_frame f page frame block_index h within =
    let block : ℕ = page * 64 + block_index in
    let its_page : page_of_block block ≡ page = omega arith in
    let its_place : place_of_block block ≡ block_index = omega arith in
    ap (λ o. block_of_page o block) (ap (page_at (memory_of f)) its_page ∙ page_in_frame f page frame h)
    ∙ ap (λ n. Some (block_in (cells_in f frame) n)) its_place

-- a cell of the page is that of the frame
pub cell_in_frame : (f : Framed) (page frame index : ℕ) → frame_of f page ≡ Some frame → index < 512 → cell_at (memory_of f) (page * 4096 + index * 8) ≡ slice_get (cells_in f frame) index
cell_in_frame f page frame index h within =
    let word : ℕ = page * 4096 + index * 8 in
    let its_page : page_of word ≡ page = omega arith in
    let its_place : place_of word ≡ index = omega arith in
    cell_at-aligned (memory_of f) word (omega arith)
    ∙ ap (λ o. cell_in o (place_of word)) (ap (page_at (memory_of f)) its_page ∙ page_in_frame f page frame h)
    ∙ ap (λ n. slice_get (cells_in f frame) n) its_place

some_mapped : {X Y : Type 0} (h : X → Y) (o : Option X) → is_some o ≡ is_some (option_map h o)
some_mapped h None = refl
some_mapped h (Some x) = refl

-- a page is mapped exactly where it has a frame
pub has_frame_is_mapped : (f : Framed) (page : ℕ) → is_some (frame_of f page) ≡ is_mapped (memory_of f) page
has_frame_is_mapped f page = some_mapped (cells_in f) (frame_of f page) ∙ sym (ap is_some (page_at_is f page))

-- 2. The frame of each page after a call.

frame_of-put : (f : Framed) (page frame q : ℕ) → frame_of (seated f page frame) q ≡ cond (nat_eq q page) (Some frame) (frame_of f q)
frame_of-put f page frame q = find-put nat_cmp nat_cmp_total q page frame f.rows ∙ ap (λ b. cond b (Some frame) (frame_of f q)) (unsigned_tied q page)

-- each other page stays in its frame
pub frame_of-seated_other : (f : Framed) (page frame q : ℕ) → (q ≡ page → ⊥) → frame_of (seated f page frame) q ≡ frame_of f q
frame_of-seated_other f page frame q ne = frame_of-put f page frame q ∙ ap (λ b. cond b (Some frame) (frame_of f q)) (ne_eqb q page ne)

frame_of-filter : (f : Framed) (page q : ℕ) → frame_of (without f page) q ≡ cond (not (nat_eq q page)) (frame_of f q) None
frame_of-filter f page q = find-where_key nat_cmp (λ x. not (x == page)) q (λ x e. ap (λ y. not (y == page)) (sym (nat_cmp-IsAntisymmetric q x e))) f.rows

pub frame_of-without_other : (f : Framed) (page q : ℕ) → (q ≡ page → ⊥) → frame_of (without f page) q ≡ frame_of f q
frame_of-without_other f page q ne = frame_of-filter f page q ∙ ap (λ b. cond (not b) (frame_of f q) None) (ne_eqb q page ne)

-- a write moves no page
pub frame_of-written : (f : Framed) (frame block_index : ℕ) (new : List Cell) (q : ℕ) → frame_of (written f frame block_index new) q ≡ frame_of f q
frame_of-written f frame block_index new q = refl

-- 3. The memory after a call.

-- a read changes no cell
pub memory_of-read : (f : Framed) (count : ℕ) → memory_of (record f { reads = count }) ≡ memory_of f
unfolding memory_of
memory_of-read f count = refl

-- a page was mapped to a frame that no row has
pub memory_of-seated : (f : Framed) (page frame : ℕ) → frame < length f.cells → rows_with frame f.rows ≡ 0 → memory_of (seated f page frame) ≡ map_page (memory_of f) page
unfolding memory_of map_page
memory_of-seated f page frame lt none =
    let g : ℕ → List Cell = λ n. slice_index_or (slice_set f.cells frame zero_page) n [] in
    let pages = put_paired g page frame f.rows
    ∙ ap (λ cells. put nat_cmp page cells (paired g f.rows)) (get_or-set_same f.cells frame zero_page [] lt)
    ∙ ap (put nat_cmp page zero_page) (paired_apart g (cells_in f) frame (λ n ne. get_or-set_other f.cells frame n zero_page [] ne) f.rows none) in
    ap (λ es. record { pages = es; frames = length (slice_set f.cells frame zero_page) }) pages
    ∙ ap (λ n. record { pages = put nat_cmp page zero_page (paired (cells_in f) f.rows); frames = n }) (length-set f.cells frame zero_page)

-- a page was removed
pub memory_of-without : (f : Framed) (page : ℕ) → memory_of (without f page) ≡ unmap_page (memory_of f) page
unfolding memory_of unmap_page
memory_of-without f page = ap (λ es. record { pages = es; frames = length f.cells }) (filter_paired (cells_in f) (λ p. not (p == page)) f.rows)

memory_of-set : (f : Framed) (page frame : ℕ) (new : List Cell) → IsTrue (is_sorted nat_cmp f.rows) → frame_of f page ≡ Some frame → frame < length f.cells → rows_with frame f.rows ≤ 1
    → memory_of (record f { cells = slice_set f.cells frame new; writes = f.writes + 1 }) ≡ record (memory_of f) { pages = put nat_cmp page new (memory_of f).pages }
unfolding memory_of
memory_of-set f page frame new sorted found lt once =
    let g : ℕ → List Cell = λ n. slice_index_or (slice_set f.cells frame new) n [] in
    let pages = paired_but_one g (cells_in f) frame (λ n ne. get_or-set_other f.cells frame n new [] ne) page f.rows (held _ sorted) found once
    ∙ ap (λ cells. put nat_cmp page cells (paired (cells_in f) f.rows)) (get_or-set_same f.cells frame new [] lt) in
    ap (λ es. record { pages = es; frames = length (slice_set f.cells frame new) }) pages
    ∙ ap (λ n. record { pages = put nat_cmp page new (paired (cells_in f) f.rows); frames = n }) (length-set f.cells frame new)

-- a block of a page's frame was written
pub memory_of-written : (f : Framed) (page frame block_index : ℕ) (new : List Cell) → IsTrue (is_sorted nat_cmp f.rows) → frame_of f page ≡ Some frame → frame < length f.cells
    → rows_with frame f.rows ≤ 1 → block_index < 64 → memory_of (written f frame block_index new) ≡ put_block (memory_of f) (page * 64 + block_index) new
memory_of-written f page frame block_index new sorted found lt once within =
    let block : ℕ = page * 64 + block_index in
    let its_page : page_of_block block ≡ page = omega arith in
    let its_place : place_of_block block ≡ block_index = omega arith in
    memory_of-set f page frame (with_block (cells_in f frame) block_index new) sorted found lt once
    ∙ ap (λ p. record (memory_of f) { pages = put nat_cmp p (with_block (cells_in f frame) block_index new) (memory_of f).pages }) (sym its_page)
    ∙ ap (λ p. record (memory_of f) { pages = put nat_cmp (page_of_block block) (with_block (cells_in f frame) p new) (memory_of f).pages }) (sym its_place)
    ∙ sym (put_block-mapped (memory_of f) block new (cells_in f frame) (ap (page_at (memory_of f)) its_page ∙ page_in_frame f page frame found))

-- 4. What is kept of frames.

module _ (f : Framed) (free : List ℕ) (framed : IsFramed f free) where
  -- the rows rise
  pub rows_rise : IsTrue (is_sorted nat_cmp f.rows)
  rows_rise = sym (ap (is_sorted nat_cmp) (pages_are f) ∙ sorted_paired (cells_in f) f.rows) ∙ framed.paged.pages.rising

  -- a frame has one page at most
  pub one_page : (frame : ℕ) → rows_with frame f.rows ≤ 1
  one_page frame = omega (arith, framed.once frame, at_most_one (nat_lt frame (length f.cells)))

  -- the frame of a page is one of the frames
  pub frame_in_range : (page frame : ℕ) → frame_of f page ≡ Some frame → frame < length f.cells
  frame_in_range page frame h = in_range frame (length f.cells) (omega (arith, framed.once frame, found_is_with page frame f.rows h))

  pub occupied_in_range : (frame : ℕ) → IsOccupied f frame → frame < length f.cells
  occupied_in_range frame h = frame_in_range h.page frame h.is

  -- a frame on the free list has no page
  pub free_has_no_row : (frame : ℕ) → 1 ≤ times frame free → rows_with frame f.rows ≡ 0
  free_has_no_row frame h = omega (arith, framed.once frame, at_most_one (nat_lt frame (length f.cells)), h)

  pub free_in_range : (frame : ℕ) → 1 ≤ times frame free → frame < length f.cells
  free_in_range frame h = in_range frame (length f.cells) (omega (arith, framed.once frame, h))

  pub free_is_free : (frame : ℕ) → 1 ≤ times frame free → IsFree f frame
  free_is_free frame h = record {
    in_range = free_in_range frame h;
    no_page = λ page found. absurd (omega (arith, found_is_with page frame f.rows found, free_has_no_row frame h));
  }
