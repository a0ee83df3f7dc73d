-- A line that is emptied and written back.
use Rattle.std.proofs.Common.{◌≡◌, ◌≢◌, ℕ, ◌+◌, ◌*◌, ◌<◌, ◌/◌, ◌%◌, List, [], ◌∷◌, zero, suc, ◌≤◌, length, Option, None}
use Rattle.std.proofs.Common.{Some, slice_get, option_map, refl, sym, ap, arith, ◌∙◌, inl, inr}
use Rattle.std.proofs.lemmas.{Bool.cases_eq, Option.slice_get-get_or}
use Rattle.mm_word.specs.declared.word.Cell.{Cell}
use Rattle.mm_model.specs.{Memory.{Memory, page_at, cell_in, IsPaged}, Counted.{line_of, page_of_block}}
use Rattle.mm_mem.{specs.Blocks.{block_of_page, block_at, place_of_block, put_block}, proofs.Blocks.put_block_paged}
use Rattle.mm_cache.specs.{declared.line.CacheLine.CacheLine, Lines.{line_in, emptied}, Over.{over_cell, over, Holds}}
use Rattle.mm_cache.specs.Laws.{Cover, LinesAreWrittenBack}
use Rattle.mm_cache.proofs.Placed.{line_set_other, line_emptied, line_cases, lines_emptied}
use Rattle.mm_cache.proofs.Laid.{over_alike, cell_over, shown, hidden}
use Rattle.mm_cache.proofs.Blocks.{with_block_here, with_block_there, with_block_other, page_there, block_fits}
use Rattle.mm_cache.proofs.Blocks.{put_block_frames, put_block_here, put_block_there, put_block_mapped}

get_within : (xs : List Cell) (n : ℕ) → n < length xs → (x : Cell) × (slice_get xs n ≡ Some x)
get_within [] n lt = absurd (omega arith)
get_within (z ∷ zs) zero lt = (z, refl)
get_within (z ∷ zs) (suc n) lt = get_within zs n (omega arith)

keep : (o : Option Cell) (k j : ℕ) → option_map (over_cell None k j) o ≡ o
keep None k j = refl
keep (Some c) k j = refl

keep_hidden : (l : CacheLine) (o : Option Cell) (k j : ℕ) → page_of_block l.block ≢ k → option_map (over_cell (Some l) k j) o ≡ o
keep_hidden l None k j other = refl
keep_hidden l (Some c) k j other = ap (λ (x : Cell). Some x) (hidden l k j c other)

-- the memory that a line's block is put into
module _ (m : Memory) (l : CacheLine) (paged : IsPaged m) (eight : length l.cells ≡ 8) (page : List Cell) (is : page_at m (page_of_block l.block) ≡ Some page) where
  abbrev after : Memory
  after = put_block m l.block l.cells

  fits : place_of_block l.block * 8 + 8 ≤ length page
  fits = block_fits m l.block page paged is

  -- of a place in a whole page
  in_block : (j : ℕ) → j < length page → slice_get l.cells (j % 8) ≡ option_map (over_cell (Some l) (page_of_block l.block) j) (slice_get page j)
  in_block j lt =
      let there = get_within page j lt in
      slice_get-get_or l.cells (j % 8) there.0 (omega (arith, eight))
      ∙ ap (λ (x : Cell). Some x) (sym (shown l (page_of_block l.block) j there.0 refl))
      ∙ ap (λ (o : Option Cell). option_map (over_cell (Some l) (page_of_block l.block) j) o) (sym there.1)

  -- the cells of the block are the line's
  back_here : (k j : ℕ) → j / 8 ≡ line_of l.block → cell_in (page_at after k) j ≡ option_map (over_cell (Some l) k j) (cell_in (page_at m k) j)
  back_here k j at = elim (cases_eq k (page_of_block l.block)) [
    | inl same ↦
        ap (λ (x : ℕ). cell_in (page_at after x) j) same
        ∙ ap (λ (o : Option (List Cell)). cell_in o j) (put_block_here m l.block l.cells page is)
        ∙ with_block_here page (place_of_block l.block) l.cells fits eight j at
        ∙ in_block j (omega (arith, fits, at))
        ∙ ap (λ (o : Option (List Cell)). option_map (over_cell (Some l) (page_of_block l.block) j) (cell_in o j)) (sym is)
        ∙ ap (λ (x : ℕ). option_map (over_cell (Some l) x j) (cell_in (page_at m x) j)) (sym same)
    | inr other ↦
        ap (λ (o : Option (List Cell)). cell_in o j) (put_block_there m l.block l.cells page is k other)
        ∙ sym (keep_hidden l (cell_in (page_at m k) j) k j (λ same. other (sym same)))
  ]

  -- the other cells are the memory's
  back_there : (k j : ℕ) → j / 8 ≢ line_of l.block → cell_in (page_at after k) j ≡ cell_in (page_at m k) j
  back_there k j apart = elim (cases_eq k (page_of_block l.block)) [
    | inl same ↦
        ap (λ (x : ℕ). cell_in (page_at after x) j) same
        ∙ ap (λ (o : Option (List Cell)). cell_in o j) (put_block_here m l.block l.cells page is)
        ∙ with_block_there page (place_of_block l.block) l.cells fits eight j apart
        ∙ ap (λ (o : Option (List Cell)). cell_in o j) (sym is)
        ∙ ap (λ (x : ℕ). cell_in (page_at m x) j) (sym same)
    | inr other ↦ ap (λ (o : Option (List Cell)). cell_in o j) (put_block_there m l.block l.cells page is k other)
  ]

  -- another block stays
  other_block : (block : ℕ) → line_of block ≢ line_of l.block → block_at after block ≡ block_at m block
  other_block block apart = elim (cases_eq (page_of_block block) (page_of_block l.block)) [
    | inl same ↦
        ap (λ (x : ℕ). block_of_page (page_at after x) block) same
        ∙ ap (λ (o : Option (List Cell)). block_of_page o block) (put_block_here m l.block l.cells page is)
        ∙ ap (λ (xs : List Cell). Some xs) (with_block_other page (place_of_block l.block) l.cells fits eight (place_of_block block) apart)
        ∙ ap (λ (o : Option (List Cell)). block_of_page o block) (sym is)
        ∙ ap (λ (x : ℕ). block_of_page (page_at m x) block) (sym same)
    | inr other ↦ ap (λ (o : Option (List Cell)). block_of_page o block) (put_block_there m l.block l.cells page is (page_of_block block) other)
  ]

  held_after : (x : CacheLine) → line_of x.block ≢ line_of l.block → Holds m x → Holds after x
  held_after x apart holds = record {
    mapped = put_block_mapped m l.block l.cells page is (page_of_block x.block) ∙ holds.mapped;
    clean = λ clean. other_block x.block apart ∙ holds.clean clean;
  }

module _ (m : Memory) (ls : List (Option CacheLine)) (i : ℕ) (l : CacheLine) (cover : Cover ls m) (is : line_in ls i ≡ Some l) where
  placed : line_of l.block ≡ i
  placed = cover.lines.placed i l is

  whole : length l.cells ≡ 8
  whole = cover.lines.whole i l is

  its_page : (page : List Cell) × (page_at m (page_of_block l.block) ≡ Some page)
  its_page = page_there m (page_of_block l.block) (cover.lie i l is).mapped

  paged_after : IsPaged (put_block m l.block l.cells)
  paged_after = put_block_paged m l.block l.cells cover.paged whole

  under : (k j : ℕ) → cell_over (emptied ls i) k j (cell_in (page_at (put_block m l.block l.cells) k) j) ≡ cell_over ls k j (cell_in (page_at m k) j)
  under k j = elim (cases_eq i (j / 8)) [
    | inl same ↦
        ap (λ (x : ℕ). option_map (over_cell (line_in (emptied ls i) x) k j) (cell_in (page_at (put_block m l.block l.cells) k) j)) (sym same)
        ∙ ap (λ (o : Option CacheLine). option_map (over_cell o k j) (cell_in (page_at (put_block m l.block l.cells) k) j)) (line_emptied ls i)
        ∙ keep (cell_in (page_at (put_block m l.block l.cells) k) j) k j
        ∙ back_here m l cover.paged whole its_page.0 its_page.1 k j (sym same ∙ sym placed)
        ∙ ap (λ (o : Option CacheLine). option_map (over_cell o k j) (cell_in (page_at m k) j)) (sym is)
        ∙ ap (λ (x : ℕ). option_map (over_cell (line_in ls x) k j) (cell_in (page_at m k) j)) same
    | inr other ↦
        ap (λ (o : Option CacheLine). option_map (over_cell o k j) (cell_in (page_at (put_block m l.block l.cells) k) j)) (line_set_other ls i (j / 8) None (λ same. other (sym same)))
        ∙ ap (λ (o : Option Cell). cell_over ls k j o) (back_there m l cover.paged whole its_page.0 its_page.1 k j (λ same. other (sym placed ∙ sym same)))
  ]

  pub back_over : over (put_block m l.block l.cells) (emptied ls i) ≡ over m ls
  back_over = over_alike (put_block m l.block l.cells) m (emptied ls i) ls paged_after.pages.rising cover.paged.pages.rising
      (put_block_frames m l.block l.cells its_page.0 its_page.1)
      (put_block_mapped m l.block l.cells its_page.0 its_page.1)
      under

  pub back_cover : Cover (emptied ls i) (put_block m l.block l.cells)
  back_cover = record {
    lines = lines_emptied ls i cover.lines;
    paged = paged_after;
    lie = λ j x at. elim (line_cases ls i j None x at) [
      | inl none ↦ (let gone = none.1 in cc)
      | inr kept ↦ held_after m l cover.paged whole its_page.0 its_page.1 x (λ same. kept.0 (sym (cover.lines.placed j x kept.1) ∙ same ∙ placed)) (cover.lie j x kept.1)
    ];
  }

pub lines_are_written_back : LinesAreWrittenBack
lines_are_written_back = record { map = back_over; cover = back_cover }
