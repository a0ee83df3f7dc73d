-- A cell that is written in its line.
use Rattle.std.proofs.Common.{◌≡◌, ◌≢◌, ℕ, zero, suc, ◌<◌, ◌/◌, ◌%◌, ◌==◌, Bool, true, false, if◌then◌else◌, List, []}
use Rattle.std.proofs.Common.{◌∷◌, length, length-set, get_or, Option, None, Some, slice_get, option_map, refl, sym, ap}
use Rattle.std.proofs.{Common.{subst, arith, ◌∙◌, ◌⊎◌, inl, inr}, lemmas.Bool.{cases_eq, Decides.nat_tests}}
use Rattle.std.specs.Prelude.{slice_set}
use Rattle.mm_word.specs.declared.word.Cell.{Cell}
use Rattle.mm_model.specs.Memory.{Memory, page_of, place_of, page_at, is_mapped, cell_in, put_cell}
use Rattle.mm_model.specs.Counted.{block_of, line_of, page_of_block}
use Rattle.mm_model.proofs.Memories.{put_cell-unmapped, page_at-put_same, page_at-put_other, is_mapped-put, put_frames}
use Rattle.mm_model.proofs.Memories.{put_paged, get_set_other}
use Rattle.mm_cache.specs.declared.line.CacheLine.{CacheLine}
use Rattle.mm_cache.specs.{Lines.{line_in, hits, line_with, with_cell, place_in_block}, Over.{over_cell, over, Holds}}
use Rattle.mm_cache.specs.Laws.{Cover, WritesAreOver}
use Rattle.mm_cache.proofs.Placed.{line_set_same, line_set_other, line_cases, lines_set}
use Rattle.mm_cache.proofs.Laid.{same_cells, over_frames, over_rises, over_paged, mapped_over, seen, cell_over, shown}
use Rattle.mm_cache.proofs.{Laid.hidden, ReadCells.line_hit}

-- cells of lists

get_here : (xs : List Cell) (i : ℕ) (c : Cell) → slice_get (slice_set xs i c) i ≡ option_map (λ (x : Cell). c) (slice_get xs i)
get_here [] i c = refl
get_here (x ∷ xs) zero c = refl
get_here (x ∷ xs) (suc i) c = get_here xs i c

or_here : (xs : List Cell) (i : ℕ) (c d : Cell) → i < length xs → get_or (slice_set xs i c) i d ≡ c
or_here [] i c d lt = absurd (omega (arith, lt))
or_here (x ∷ xs) zero c d lt = refl
or_here (x ∷ xs) (suc i) c d lt = or_here xs i c d (omega (arith, lt))

or_other : (xs : List Cell) (i j : ℕ) (c d : Cell) → i ≢ j → get_or (slice_set xs i c) j d ≡ get_or xs j d
or_other [] i j c d other = refl
or_other (x ∷ xs) zero zero c d other = absurd (other refl)
or_other (x ∷ xs) zero (suc j) c d other = refl
or_other (x ∷ xs) (suc i) zero c d other = refl
or_other (x ∷ xs) (suc i) (suc j) c d other = or_other xs i j c d (λ same. other (ap suc same))

-- cells of a memory after a write

module _ (f : Memory) (w : ℕ) (c : Cell) where
  here_page : (o : Option (List Cell)) → page_at f (page_of w) ≡ o → page_at (put_cell f w c) (page_of w) ≡ option_map (λ (cells : List Cell). slice_set cells (place_of w) c) o
  here_page None e = ap (λ (n : Memory). page_at n (page_of w)) (put_cell-unmapped f w c e) ∙ e
  here_page (Some cells) e = page_at-put_same f w c cells e

  in_page : (k : ℕ) → k ≡ page_of w → page_at (put_cell f w c) k ≡ option_map (λ (cells : List Cell). slice_set cells (place_of w) c) (page_at f k)
  in_page k same =
      ap (λ (x : ℕ). page_at (put_cell f w c) x) same
      ∙ here_page (page_at f (page_of w)) refl
      ∙ ap (λ (x : ℕ). option_map (λ (cells : List Cell). slice_set cells (place_of w) c) (page_at f x)) (sym same)

  cell_page : (k j : ℕ) → k ≢ page_of w → cell_in (page_at (put_cell f w c) k) j ≡ cell_in (page_at f k) j
  cell_page k j other = ap (λ (o : Option (List Cell)). cell_in o j) (page_at-put_other f w c k other)

  cell_place : (k j : ℕ) → j ≢ place_of w → cell_in (page_at (put_cell f w c) k) j ≡ cell_in (page_at f k) j
  cell_place k j other = elim (cases_eq k (page_of w)) [
    | inl same ↦ ap (λ (o : Option (List Cell)). cell_in o j) (in_page k same) ∙ by (page_at f k)
    | inr apart ↦ cell_page k j apart
  ]
    where
      by : (o : Option (List Cell)) → cell_in (option_map (λ (cells : List Cell). slice_set cells (place_of w) c) o) j ≡ cell_in o j
      by None = refl
      by (Some cells) = get_set_other cells (place_of w) j c other

  cell_set : (k j : ℕ) → k ≡ page_of w → j ≡ place_of w → cell_in (page_at (put_cell f w c) k) j ≡ option_map (λ (x : Cell). c) (cell_in (page_at f k) j)
  cell_set k j same at = ap (λ (o : Option (List Cell)). cell_in o j) (in_page k same) ∙ by (page_at f k)
    where
      by : (o : Option (List Cell)) → cell_in (option_map (λ (cells : List Cell). slice_set cells (place_of w) c) o) j ≡ option_map (λ (x : Cell). c) (cell_in o j)
      by None = refl
      by (Some cells) = ap (λ (x : ℕ). slice_get (slice_set cells x c) j) (sym at) ∙ get_here cells j c

-- the line that is written

module _ (m : Memory) (ls : List (Option CacheLine)) (w : ℕ) (c : Cell) (l : CacheLine)
    (is : line_in ls (line_of (block_of w)) ≡ Some l) (its : l.block ≡ block_of w) (eight : length l.cells ≡ 8) (room : line_of (block_of w) < length ls) where
  abbrev new : CacheLine
  new = record { block = l.block; dirty = true; cells = slice_set l.cells (place_in_block w) c }

  new_line : line_in (with_cell ls w c) (line_of (block_of w)) ≡ Some new
  new_line =
      let test : (l.block == block_of w) ≡ true = grind (arith, nat_tests, its) in
      line_set_same ls (line_of (block_of w)) (line_with (line_in ls (line_of (block_of w))) w c) room
      ∙ ap (λ (o : Option CacheLine). line_with o w c) is
      ∙ ap (λ (b : Bool). let o : Option CacheLine = (if b then Some new else Some l) in o) test

  other_line : (j : ℕ) → line_of (block_of w) ≢ j → line_in (with_cell ls w c) j ≡ line_in ls j
  other_line j other = line_set_other ls (line_of (block_of w)) j (line_with (line_in ls (line_of (block_of w))) w c) (λ same. other (sym same))

  -- of another page the line shows nothing
  other_page : (k j : ℕ) (d : Cell) → k ≢ page_of w → over_cell (Some new) k j d ≡ over_cell (Some l) k j d
  other_page k j d other =
      let apart : page_of_block l.block ≢ k = λ same. other (omega (arith, its, same)) in
      hidden new k j d apart ∙ sym (hidden l k j d apart)

  other_place : (k j : ℕ) (d : Cell) → j / 8 ≡ line_of (block_of w) → j ≢ place_of w → over_cell (Some new) k j d ≡ over_cell (Some l) k j d
  other_place k j d line other =
      let apart : place_in_block w ≢ j % 8 = λ same. other (omega (arith, line, same)) in
      ap (λ (x : Cell). if page_of_block l.block == k then x else d) (or_other l.cells (place_in_block w) (j % 8) c d apart)

  at_place : (k j : ℕ) (d : Cell) → k ≡ page_of w → j ≡ place_of w → over_cell (Some new) k j d ≡ c
  at_place k j d same at =
      let here : page_of_block l.block ≡ k = omega (arith, its, same) in
      let place : j % 8 ≡ place_in_block w = omega (arith, at) in
      shown new k j d here
      ∙ ap (λ (x : ℕ). get_or (slice_set l.cells (place_in_block w) c) x d) place
      ∙ or_here l.cells (place_in_block w) c d (omega (arith, eight))

  mapped : (o : Option Cell) (f g : Cell → Cell) → ((d : Cell) → f d ≡ g d) → option_map f o ≡ option_map g o
  mapped None f g same = refl
  mapped (Some d) f g same = ap (λ (x : Cell). Some x) (same d)

  twice : (o : Option Cell) (f g : Cell → Cell) → ((d : Cell) → f d ≡ c) → option_map f o ≡ option_map (λ (x : Cell). c) (option_map g o)
  twice None f g same = refl
  twice (Some d) f g same = ap (λ (x : Cell). Some x) (same d)

  under_new : (k j : ℕ) → line_of (block_of w) ≡ j / 8 → cell_over (with_cell ls w c) k j (cell_in (page_at m k) j) ≡ option_map (over_cell (Some new) k j) (cell_in (page_at m k) j)
  under_new k j same = ap (λ (o : Option CacheLine). option_map (over_cell o k j) (cell_in (page_at m k) j)) (ap (λ (x : ℕ). line_in (with_cell ls w c) x) (sym same) ∙ new_line)

  under_old : (k j : ℕ) → line_of (block_of w) ≡ j / 8 → option_map (over_cell (Some l) k j) (cell_in (page_at m k) j) ≡ cell_in (page_at (over m ls) k) j
  under_old k j same = ap (λ (o : Option CacheLine). option_map (over_cell o k j) (cell_in (page_at m k) j)) (sym (ap (λ (x : ℕ). line_in ls x) (sym same) ∙ is)) ∙ sym (seen m ls k j)

  pub cells_written : (k j : ℕ) → cell_over (with_cell ls w c) k j (cell_in (page_at m k) j) ≡ cell_in (page_at (put_cell (over m ls) w c) k) j
  cells_written k j = elim (cases_eq (line_of (block_of w)) (j / 8)) [
    | inr other ↦
        ap (λ (o : Option CacheLine). option_map (over_cell o k j) (cell_in (page_at m k) j)) (other_line (j / 8) other)
        ∙ sym (seen m ls k j)
        ∙ sym (cell_place (over m ls) w c k j (λ at. other (omega (arith, at))))
    | inl same ↦ under_new k j same ∙ elim (cases_eq k (page_of w)) [
      | inr other ↦ mapped (cell_in (page_at m k) j) _ _ (λ d. other_page k j d other) ∙ under_old k j same ∙ sym (cell_page (over m ls) w c k j other)
      | inl here ↦ elim (cases_eq j (place_of w)) [
        | inr other ↦ mapped (cell_in (page_at m k) j) _ _ (λ d. other_place k j d (sym same) other) ∙ under_old k j same ∙ sym (cell_place (over m ls) w c k j other)
        | inl at ↦ twice (cell_in (page_at m k) j) (over_cell (Some new) k j) (over_cell (line_in ls (j / 8)) k j) (λ d. at_place k j d here at)
            ∙ ap (λ (o : Option Cell). option_map (λ (x : Cell). c) o) (sym (seen m ls k j))
            ∙ sym (cell_set (over m ls) w c k j here at)
      ]
    ]
  ]

pub write_over : (m : Memory) (ls : List (Option CacheLine)) (w : ℕ) (c : Cell) → Cover ls m → hits ls (block_of w) ≡ true → over m (with_cell ls w c) ≡ put_cell (over m ls) w c
write_over m ls w c cover hit =
    let found = line_hit ls (block_of w) hit in
    let paged = put_paged (over m ls) w c (over_paged m ls cover.paged) in
    same_cells _ _ (over_rises m (with_cell ls w c) cover.paged.pages.rising) paged.pages.rising
    (over_frames m (with_cell ls w c) ∙ sym (put_frames (over m ls) w c ∙ over_frames m ls))
    (λ k. mapped_over m (with_cell ls w c) k ∙ sym (is_mapped-put (over m ls) w c k ∙ mapped_over m ls k))
    (λ k j. seen m (with_cell ls w c) k j
    ∙ cells_written m ls w c found.0 found.1 found.2 (cover.lines.whole (line_of (block_of w)) found.0 found.1) (omega (arith, cover.lines.many)) k j)

-- what a line was before it was written, if at all
record Before (x l : CacheLine) : Type 0 where
  block : x.block ≡ l.block
  many : length x.cells ≡ length l.cells
  kept : (l.dirty ≡ true) ⊎ (x ≡ l)

abbrev dirtied : CacheLine → ℕ → Cell → CacheLine
dirtied x w c = record { block = x.block; dirty = true; cells = slice_set x.cells (place_in_block w) c }

inside : (a b : CacheLine) → Some a ≡ Some b → a ≡ b
inside a b same = cc

before_new : (x l : CacheLine) (w : ℕ) (c : Cell) → dirtied x w c ≡ l → Before x l
before_new x l w c same = record {
  block = ap (λ (y : CacheLine). y.block) same;
  many = sym (length-set x.cells (place_in_block w) c) ∙ ap (λ (y : CacheLine). length y.cells) same;
  kept = inl (sym (ap (λ (y : CacheLine). y.dirty) same));
}

before_old : (x l : CacheLine) → x ≡ l → Before x l
before_old x l same = record { block = ap (λ (y : CacheLine). y.block) same; many = ap (λ (y : CacheLine). length y.cells) same; kept = inr same }

before_by : (x l : CacheLine) (w : ℕ) (c : Cell) (b : Bool) → (if b then Some (dirtied x w c) else Some x) ≡ Some l → Before x l
before_by x l w c true same = before_new x l w c (inside (dirtied x w c) l same)
before_by x l w c false same = before_old x l (inside x l same)

before : (o : Option CacheLine) (w : ℕ) (c : Cell) (l : CacheLine) → line_with o w c ≡ Some l → (x : CacheLine) × (o ≡ Some x) × Before x l
before None w c l is = cc
before (Some x) w c l is = (x, refl, before_by x l w c (x.block == block_of w) is)

held_before : (m : Memory) (x l : CacheLine) → Before x l → Holds m x → Holds m l
held_before m x l b holds = record {
  mapped = ap (λ (n : ℕ). is_mapped m (page_of_block n)) (sym b.block) ∙ holds.mapped;
  clean = λ clean. elim b.kept [ inl dirty ↦ cc | inr same ↦ (subst (λ (y : CacheLine). Holds m y) same holds).clean clean ];
}

module _ (m : Memory) (ls : List (Option CacheLine)) (w : ℕ) (c : Cell) (cover : Cover ls m) where
  abbrev at : ℕ
  at = line_of (block_of w)

  abbrev written : Option CacheLine
  written = line_with (line_in ls at) w c

  was : (l : CacheLine) → written ≡ Some l → (x : CacheLine) × (line_in ls at ≡ Some x) × Before x l
  was l is = before (line_in ls at) w c l is

  pub write_cover : hits ls (block_of w) ≡ true → Cover (with_cell ls w c) m
  write_cover hit = record {
    lines = lines_set ls at written cover.lines
        (λ l is. let old = was l is in ap line_of (sym old.2.block) ∙ cover.lines.placed at old.0 old.1)
        (λ l is. let old = was l is in sym old.2.many ∙ cover.lines.whole at old.0 old.1);
    paged = cover.paged;
    lie = λ j l is. elim (line_cases ls at j written l is) [
      | inl new ↦ (let old = was l new.1 in held_before m old.0 l old.2 (cover.lie at old.0 old.1))
      | inr kept ↦ cover.lie j l kept.1
    ];
  }

pub writes_are_over : WritesAreOver
writes_are_over = record { map = write_over; cover = write_cover }
