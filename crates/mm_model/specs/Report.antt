-- The report of a state against an image.
use Rattle.std.specs.Prelude.{ℕ, ◌+◌, ◌*◌, Bool, true, false, not, ◌&&◌, ◌==◌, if◌then◌else◌, List, [], ◌∷◌, ◌++◌}
use Rattle.std.specs.Prelude.{length, codes, decimal, Option, Some, None}
use Rattle.std.specs.{List.{flat_map, filter, fold, list_any, range_with_len}, Ordering.nat_cmp, FinMap.put}
use Rattle.mm_word.specs.declared.word.Cell.{Cell}
use Rattle.mm_model.specs.{declared.counts.Counts.Counts, Digits.hex, Memory.{Memory, page_at, is_mapped, zero_page}}
use Rattle.mm_model.specs.{Effect.same_word, State.{ThreadRow, Core, State, output_of}, Uses.Use, Image.{Image, start}}
use Rattle.mm_model.specs.{Run.{run, uses}, Lines.{newline, slot_lines, output_lines, cell_line}}

-- 1. The count of cycles.
abbrev pub cycles_line : ℕ → List ℕ
cycles_line cycles = codes "cycles " ++ decimal cycles ++ newline

-- 2 and 3. Each group that has a slot, ascending, with its output and its slots.

abbrev pub is_of : ℕ → ThreadRow → Bool
is_of g row = row.slot.group == g

-- the line of a group, with the count of bytes that it has put out
abbrev pub group_line : ℕ → ℕ → List ℕ
group_line g count = codes "group " ++ decimal g ++ codes " output " ++ decimal count ++ newline

-- the section of a group: its output, and its slots
unfoldable pub section : Core → ℕ → List ℕ
section core g = group_line g (length (output_of core g)) ++ output_lines (output_of core g)
    ++ flat_map (λ row. slot_lines row.slot) (filter (is_of g) core.rows)

-- the groups that have a slot, ascending
abbrev pub groups_of : Core → List ℕ
groups_of core = filter (λ g. list_any (is_of g) core.rows) (range_with_len 0 64)

abbrev pub sections : Core → List ℕ
sections core = flat_map (section core) (groups_of core)

-- 4. Pages that were mapped or removed.

-- the pages of both memories, ascending
abbrev pub pages_of : Memory → Memory → List (ℕ × List Cell)
pages_of a b = fold (λ pages page. put nat_cmp page.0 page.1 pages) a.pages b.pages

abbrev pub page_change : ℕ → Bool → Bool → List ℕ
page_change p true false = codes "page " ++ hex 11 p ++ codes " new\n"
page_change p false true = codes "page " ++ hex 11 p ++ codes " gone\n"
page_change p _ _ = []

abbrev pub page_lines : Memory → Memory → List ℕ
page_lines now image =
    flat_map (λ page. page_change page.0 (is_mapped now page.0) (is_mapped image page.0)) (pages_of now image)

-- 5. Cells that differ.

abbrev pub same_bit : Bool → Bool → Bool
same_bit true b = b
same_bit false b = not b

abbrev pub same_cell : Cell → Cell → Bool
same_cell a b = same_word a.word b.word && same_bit a.full b.full

-- the cells from a word on that differ from the cells `was`, each with its word
abbrev pub changes_from : ℕ → List Cell → List Cell → List (ℕ × Cell)
changes_from w [] was = []
changes_from w (c ∷ cells) [] = []
changes_from w (c ∷ cells) (d ∷ was) = (if same_cell c d then [] else (w, c) ∷ []) ++ changes_from (w + 8) cells was

abbrev pub cells_or_zero : Option (List Cell) → List Cell
cells_or_zero None = zero_page
cells_or_zero (Some cells) = cells

-- each mapped cell that differs from the image's, or from integer 0, full, if the image has no such page
abbrev pub changes : Memory → Memory → List (ℕ × Cell)
changes now image =
    flat_map (λ page. changes_from (page.0 * 4096) page.1 (cells_or_zero (page_at image page.0))) now.pages

-- the lines of the changed cells
abbrev pub cell_lines : Memory → Memory → List ℕ
cell_lines now image = flat_map (λ change. cell_line change.0 change.1) (changes now image)

-- 6. What the memory counted, if it counts.
abbrev pub count_line : Option Counts → List ℕ
count_line None = []
count_line (Some c) =
    codes "counts hits " ++ decimal c.hits ++ codes " misses " ++ decimal c.misses ++ codes " writebacks "
    ++ decimal c.writebacks ++ codes " tlb_hits " ++ decimal c.tlb_hits
    ++ codes " tlb_misses " ++ decimal c.tlb_misses ++ codes " reads " ++ decimal c.reads ++ codes " writes "
    ++ decimal c.writes ++ newline

-- the whole report
unfoldable pub report : State → Image → Option Counts → List ℕ
report s image counts =
    cycles_line s.cycles ++ sections s.core ++ page_lines s.memory image.memory ++ cell_lines s.memory image.memory
    ++ count_line counts

-- 7. The reports of runs, given what the memory tells of uses.

-- the report, against an image, of the state to which items lead from a state, with what the memory tells of these
-- items' uses alone
abbrev pub further_report : (List Use → Option Counts) → Image → State → List ℕ → List ℕ
further_report tells i s items = report (run s items) i (tells (uses s items))

-- the report of an image's run under these items
abbrev pub report_after : (List Use → Option Counts) → Image → List ℕ → List ℕ
report_after tells i items = further_report tells i (start i) items
