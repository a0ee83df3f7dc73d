-- A line that is filled from the memory, and a clean one that goes.
use Rattle.std.proofs.Common.{◌≡◌, ℕ, ◌+◌, ◌*◌, ◌/◌, ◌%◌, is_some, true, false, List, length, Option, None, Some}
use Rattle.std.proofs.Common.{slice_get, refl, sym, ap, subst, arith, ◌∙◌, inl, inr}
use Rattle.std.proofs.lemmas.{Bool.cases_eq, Option.get_or_from_slice_get}
use Rattle.mm_word.specs.declared.word.Cell.{Cell}
use Rattle.mm_model.specs.{Memory.{Memory, page_at, is_mapped, cell_in}, Counted.{line_of, page_of_block}}
use Rattle.mm_mem.specs.Blocks.{block_in, block_of_page, block_at, place_of_block}
use Rattle.mm_cache.specs.{declared.line.CacheLine.CacheLine, Lines.{line_in, filled, emptied}}
use Rattle.mm_cache.specs.{Over.{over_cell, over, Holds}, Laws.{Cover, FillsAreOver, CleanLinesGo}}
use Rattle.mm_cache.proofs.Placed.{line_set_same, line_set_other, line_emptied, line_cases, lines_set, lines_emptied}
use Rattle.mm_cache.proofs.{Laid.{over_line, shown, hidden}, Blocks.{block_get, page_of_there, block_at_length}}

-- a page that has a cell
page_of_place : (o : Option (List Cell)) (j : ℕ) (c : Cell) → cell_in o j ≡ Some c → (page : List Cell) × (o ≡ Some page) × (slice_get page j ≡ Some c)
page_of_place None j c h = cc
page_of_place (Some page) j c h = (page, refl, h)

some_same : (a b : List Cell) → Some a ≡ Some b → a ≡ b
some_same a b same = cc

-- a line with the cells of the memory shows a cell that the memory has too
pub clean_cell : (m : Memory) (l : CacheLine) → block_at m l.block ≡ Some l.cells → (k j : ℕ) (c : Cell) → cell_in (page_at m k) j ≡ Some c → j / 8 ≡ line_of l.block → over_cell (Some l) k j c ≡ c
clean_cell m l same k j c is at = elim (cases_eq (page_of_block l.block) k) [
  | inl here ↦
      (let found = page_of_place (page_at m k) j c is in
      let block : block_in found.0 (place_of_block l.block) ≡ l.cells =
      some_same _ _ (sym (ap (λ (o : Option (List Cell)). block_of_page o l.block) (ap (λ (x : ℕ). page_at m x) here ∙ found.1)) ∙ same) in
      let index : place_of_block l.block * 8 + j % 8 ≡ j = omega (arith, at) in
      shown l k j c here
      ∙ get_or_from_slice_get l.cells (j % 8) c c (
      ap (λ (xs : List Cell). slice_get xs (j % 8)) (sym block)
      ∙ block_get found.0 (place_of_block l.block) (j % 8) (omega arith)
      ∙ ap (slice_get found.0) index
      ∙ found.2))
  | inr other ↦ hidden l k j c other
]

module _ (m : Memory) (ls : List (Option CacheLine)) (block : ℕ) (cells : List Cell) (cover : Cover ls m) (empty : line_in ls (line_of block) ≡ None) (there : block_at m block ≡ Some cells) where
  abbrev new : CacheLine
  new = record { block = block; dirty = false; cells = cells }

  pub fill_over : over m (filled ls block cells) ≡ over m ls
  fill_over = over_line m (filled ls block cells) ls (line_of block) cover.paged.pages.rising
      (λ j other. line_set_other ls (line_of block) j (Some new) (λ same. other (sym same)))
      (λ k j c is at.
      ap (λ (o : Option CacheLine). over_cell o k j c) (line_set_same ls (line_of block) (Some new) (omega (arith, cover.lines.many)))
      ∙ clean_cell m new there k j c is at
      ∙ sym (ap (λ (o : Option CacheLine). over_cell o k j c) empty))

  filled_is : (l : CacheLine) → Some new ≡ Some l → new ≡ l
  filled_is l is = cc

  filled_mapped : is_mapped m (page_of_block block) ≡ true
  filled_mapped = ap is_some (page_of_there m block cells there).1

  filled_holds : Holds m new
  filled_holds = record { mapped = filled_mapped; clean = λ clean. there }

  pub fill_cover : Cover (filled ls block cells) m
  fill_cover = record {
    lines = lines_set ls (line_of block) (Some new) cover.lines
        (λ l is. ap (λ (x : CacheLine). line_of x.block) (sym (filled_is l is)))
        (λ l is. ap (λ (x : CacheLine). length x.cells) (sym (filled_is l is)) ∙ block_at_length m block cells cover.paged there);
    paged = cover.paged;
    lie = λ j l is. elim (line_cases ls (line_of block) j (Some new) l is) [
      | inl set ↦ subst (λ (x : CacheLine). Holds m x) (filled_is l set.1) filled_holds
      | inr kept ↦ cover.lie j l kept.1
    ];
  }

pub fills_are_over : FillsAreOver
fills_are_over = record { map = fill_over; cover = fill_cover }

pub clean_over : (m : Memory) (ls : List (Option CacheLine)) (i : ℕ) (l : CacheLine) → Cover ls m → line_in ls i ≡ Some l → l.dirty ≡ false → over m (emptied ls i) ≡ over m ls
clean_over m ls i l cover is clean = over_line m (emptied ls i) ls i cover.paged.pages.rising
    (λ j other. line_set_other ls i j None (λ same. other (sym same)))
    (λ k j c cell at.
    ap (λ (o : Option CacheLine). over_cell o k j c) (line_emptied ls i)
    ∙ sym (ap (λ (o : Option CacheLine). over_cell o k j c) is ∙ clean_cell m l ((cover.lie i l is).clean clean) k j c cell (at ∙ sym (cover.lines.placed i l is))))

pub clean_cover : (m : Memory) (ls : List (Option CacheLine)) (i : ℕ) → Cover ls m → Cover (emptied ls i) m
clean_cover m ls i cover = record {
  lines = lines_emptied ls i cover.lines;
  paged = cover.paged;
  lie = λ j l is. elim (line_cases ls i j None l is) [ inl none ↦ (let gone = none.1 in cc) | inr kept ↦ cover.lie j l kept.1 ];
}

pub clean_lines_go : CleanLinesGo
clean_lines_go = record { map = clean_over; cover = clean_cover }
