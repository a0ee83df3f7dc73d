-- Where the cells of a page are, and their lines place by place.
use Rattle.std.proofs.Common.{◌≡◌, ℕ, suc, ◌+◌, ◌*◌, ◌<◌, Bool, true, false, cond, if◌then◌else◌, is_eq, List, [], ◌∷◌}
use Rattle.std.proofs.Common.{◌++◌, length, map, Option, Some, None, slice_get, slice_index_or, refl, sym, ap, ◌∙◌}
use Rattle.std.proofs.{Common.arith, lemmas.{Grind.flat_map-append, List.{get_or-replicate, length-replicate}}}
use Rattle.std.specs.{List.{flat_map, range_with_len, AllByRecursion}, Prelude.IsTrue, Ordering.nat_cmp}
use Rattle.std.specs.FinMap.{is_sorted, find}
use Rattle.mm_word.specs.declared.word.Cell.{Cell}
use Rattle.mm_model.specs.{Memory.{Memory, page_at, zero_cell, zero_page, IsPage, IsPaged}, Lines.cell_line}
use Rattle.mm_model.specs.Report.{same_cell, changes_from, cells_or_zero}
use Rattle.mm_mem.specs.Places.{IsAt}
use Rattle.mm_mem.proofs.{Places.{held, found_at}, Flats.page_here, PagePlaces.{any_default, at_place}}
use Rattle.mm_report.specs.Changes.{change_line, line_at, contents, cells_of, lines_of, changes_of}

first_line : (same : Bool) (w : ℕ) (c : Cell) (rest : List (ℕ × Cell)) → lines_of ((if same then [] else (w, c) ∷ []) ++ rest) ≡ (if same then [] else cell_line w c) ++ lines_of rest
first_line true w c rest = refl
first_line false w c rest = refl

-- the lines of changed cells, place by place from the k-th on
lines_from : (f : ℕ → List ℕ) (k w : ℕ) (cells was : List Cell) → length cells ≡ length was
    → ((j : ℕ) → j < length cells → f (k + j) ≡ change_line (w + 8 * j) (slice_index_or cells j zero_cell) (slice_index_or was j zero_cell))
    → lines_of (changes_from w cells was) ≡ flat_map f (range_with_len k (length cells))
lines_from f k w [] was e h = refl
lines_from f k w (c ∷ cells) [] e h = absurd (omega arith)
lines_from f k w (c ∷ cells) (d ∷ was) e h =
    let head : f k ≡ change_line w c d = ap f (let z : k ≡ k + 0 = omega arith in z) ∙ h 0 (omega arith) ∙ ap (λ (v : ℕ). change_line v c d) (let z : w + 8 * 0 ≡ w = omega arith in z) in
    let tail : lines_of (changes_from (w + 8) cells was) ≡ flat_map f (range_with_len (k + 1) (length cells)) =
    lines_from f (k + 1) (w + 8) cells was (omega arith) (λ j lt.
    ap f (let z : k + 1 + j ≡ k + suc j = omega arith in z) ∙ h (suc j) (omega arith)
    ∙ ap (λ (v : ℕ). change_line v (slice_index_or cells j zero_cell) (slice_index_or was j zero_cell)) (let z : w + 8 * suc j ≡ w + 8 + 8 * j = omega arith in z)) in
    first_line (same_cell c d) w c (changes_from (w + 8) cells was) ∙ ap (λ (text : List ℕ). text ++ lines_of (changes_from (w + 8) cells was)) (sym head) ∙ ap (λ (text : List ℕ). f k ++ text) tail

pub lines_by_place : (w n : ℕ) (cells was : List Cell) → length cells ≡ n → length was ≡ n → lines_of (changes_from w cells was) ≡ flat_map (line_at w cells was) (range_with_len 0 n)
lines_by_place w n cells was e d =
    lines_from (line_at w cells was) 0 w cells was (e ∙ sym d) (λ j lt. ap (line_at w cells was) (let z : 0 + j ≡ j = omega arith in z))
    ∙ ap (λ (k : ℕ). flat_map (line_at w cells was) (range_with_len 0 k)) e

pub zero_there : (i : ℕ) → i < 512 → zero_cell ≡ slice_index_or zero_page i zero_cell
zero_there i h = sym (get_or-replicate 512 i zero_cell zero_cell h)

-- the cells of a page at a place of the list, and of one that is not there
pub cells_here : (pages : List (ℕ × List Cell)) (number at : ℕ) (page : ℕ × List Cell) → IsTrue (is_sorted nat_cmp pages) → IsAt number pages at → page ≡ slice_index_or pages at page
    → cells_of (contents pages) number ≡ page.1
cells_here pages number at page sorted here is =
    ap cells_or_zero (found_at number pages at (held _ sorted) here page) ∙ ap (λ (e : ℕ × List Cell). e.1) (sym is)

pub cells_nowhere : (pages : List (ℕ × List Cell)) (number : ℕ) → page_at (contents pages) number ≡ None → cells_of (contents pages) number ≡ zero_page
cells_nowhere pages number none = ap cells_or_zero none

size_of : (cells : Option (List Cell)) → ((xs : List Cell) → cells ≡ Some xs → length xs ≡ 512) → length (cells_or_zero cells) ≡ 512
size_of None f = length-replicate 512 zero_cell
size_of (Some xs) f = f xs refl

find_whole : (number : ℕ) (pages : List (ℕ × List Cell)) → AllByRecursion IsPage pages → (xs : List Cell) → find nat_cmp number pages ≡ Some xs → length xs ≡ 512
find_whole number [] h xs e = cc
find_whole number (page ∷ pages) h xs e = by (is_eq (nat_cmp number page.0)) e (find_whole number pages h.1 xs)
  where
    by : (b : Bool) → cond b (Some page.1) (find nat_cmp number pages) ≡ Some xs → (find nat_cmp number pages ≡ Some xs → length xs ≡ 512) → length xs ≡ 512
    by true e later = let same : page.1 ≡ xs = cc in sym (ap (λ (ys : List Cell). length ys) same) ∙ h.0.cells
    by false e later = later e

-- each of these pages, or a page of zeros, has 512 cells
pub was_whole : (pages : List (ℕ × List Cell)) (number : ℕ) → AllByRecursion IsPage pages → length (cells_of (contents pages) number) ≡ 512
was_whole pages number h = size_of (find nat_cmp number pages) (find_whole number pages h)

-- what changed of a page
abbrev pub page_changes : Memory → ℕ × List Cell → List (ℕ × Cell)
page_changes was page = changes_from (page.0 * 4096) page.1 (cells_or_zero (page_at was page.0))

pub changes_here : (m was : Memory) (i n : ℕ) (d : ℕ × List Cell) → IsPaged m → slice_get (map (λ e. e.0) m.pages) i ≡
    Some n → changes_of m was n ≡ lines_of (page_changes was (slice_index_or m.pages i d))
changes_here m was i n d paged e =
    let here = at_place m.pages i n e in
    let page : ℕ × List Cell = slice_index_or m.pages i d in
    let number : n ≡ page.0 = sym (here.has_number d) in
    let cells : cells_of m n ≡ page.1 = ap cells_or_zero (page_here m n i page paged here (any_default m.pages i d page here.in_range)) in
    ap (λ (xs : List Cell). lines_of (changes_from (n * 4096) xs (cells_of was n))) cells ∙ ap (λ (k : ℕ). lines_of (page_changes was (k, page.1))) number

-- the lines of what changed of each page are those of all that changed
pub lines_of_pages : (was : Memory) (pages : List (ℕ × List Cell)) → flat_map (λ page. lines_of (page_changes was page)) pages ≡ lines_of (flat_map (page_changes was) pages)
lines_of_pages was [] = refl
lines_of_pages was (page ∷ pages) =
    ap (λ (text : List ℕ). lines_of (page_changes was page) ++ text) (lines_of_pages was pages)
    ∙ sym (flat_map-append (λ (cell : ℕ × Cell). cell_line cell.0 cell.1) (page_changes was page) (flat_map (page_changes was) pages))
