-- The cells and pages that groups keep.
use Rattle.std.specs.Prelude.{◌≡◌, ℕ, zero, suc, ◌+◌, ◌*◌, ◌%◌, ◌^◌, ◌<◌, ◌↔◌, Bool, false, ◌&&◌, ◌||◌, nat_le, nat_lt}
use Rattle.std.specs.{Prelude.{if◌then◌else◌, List, [], ◌∷◌, map}, List.{list_any, filter}}
use Rattle.mm_word.specs.declared.word.Cell.{Cell}
use Rattle.mm_model.specs.{Memory.zero_cell, Image.Image, Flags.in_mask, Reach.Entries.All, Worlds.Touchable}
use Rattle.mm_seg.specs.Segments.{Covered, end_of}

-- the set covers exactly the words that a group of the mask can touch if anything may be entered
abbrev pub CoversTouched : Image → ℕ → List (ℕ × ℕ) → Type 0
CoversTouched i groups set = (w : ℕ) → w % 8 ≡ 0 → w < 2 ^ 54 → Covered set w ↔ Touchable i All (in_mask groups) w

-- whether a set covers an address
abbrev pub is_covered : List (ℕ × ℕ) → ℕ → Bool
is_covered set w = list_any (λ s. nat_le s.0 w && nat_lt w (end_of s)) set

abbrev pub kept_cell : Bool → Cell → Cell
kept_cell keep cell = if keep then cell else zero_cell

-- the cells from a word on, with integer 0, full, at words that do not pass
abbrev pub kept_cells : (ℕ → Bool) → ℕ → List Cell → List Cell
kept_cells passes w [] = []
kept_cells passes w (cell ∷ cells) = kept_cell (passes w) cell ∷ kept_cells passes (w + 8) cells

-- whether one of `count` words from a word on passes
abbrev pub some_word : (ℕ → Bool) → ℕ → ℕ → Bool
some_word passes zero w = false
some_word passes (suc count) w = passes w || some_word passes count (w + 8)

-- whether a word of the page passes
unfoldable pub has_word : (ℕ → Bool) → ℕ → Bool
has_word passes page = some_word passes 512 (page * 4096)

-- the pages with a word that passes
abbrev pub kept_pages : (ℕ → Bool) → List (ℕ × List Cell) → List (ℕ × List Cell)
kept_pages passes pages =
    map (λ page. (page.0, kept_cells passes (page.0 * 4096) page.1)) (filter (λ page. has_word passes page.0) pages)
