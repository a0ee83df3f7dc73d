-- The pages of generated images.
use Rattle.std.proofs.Common.{◌≡◌, ℕ, zero, suc, ◌+◌, ◌*◌, ◌^◌, ◌<◌, ◌≤◌, List, [], ◌∷◌, ◌++◌, map, length, replicate}
use Rattle.std.proofs.Common.{refl, ap, sym, ◌∙◌, arith, lit<}
use Rattle.std.proofs.lemmas.List.{length-append, length-replicate, append-nil, append_assoc, map-id}
use Rattle.std.proofs.lemmas.List.Concat.{flat_map-append}
use Rattle.std.proofs.lemmas.List.Elements.{All-append, All-replicate, All-from_recursion, recursion_from_All}
use Rattle.std.proofs.lemmas.List.FromFn.{length-map-range_with_len, map-range_with_len_more}
use Rattle.std.specs.List.{flat_map, range_with_len, AllByRecursion}
use Rattle.mm_word.specs.{declared.word.Cell.Cell, Word.IsWord}
use Rattle.mm_isa.specs.Table.{packed, spelling}
use Rattle.mm_model.{specs.Memory.zero_cell, proofs.Bytes.Rising.AreRisingFrom}
use Rattle.mm_gen.specs.Generated.{nth_number, code_page, data_page, full_cell, loop, code_cells, data_cell, data_cells}
use Rattle.mm_gen.specs.{Generated.slot_pages, Steps.{cells_behind, pages_behind}}
use Rattle.mm_gen.proofs.Numbers.{nth_number-fits, cells_behind-data}

-- 1. Cells.

pub length-code_cells : length code_cells ≡ 512
unfolding code_cells
length-code_cells = length-append (map (λ i. full_cell (spelling i)) loop) (replicate 507 zero_cell) ∙ ap (λ n. 5 + n) (length-replicate 507 zero_cell)

pub length-data_cells : (number slot : ℕ) → length (data_cells number slot) ≡ 512
unfolding data_cells
length-data_cells number slot = length-map-range_with_len (data_cell number slot) 0 512

abbrev HoldsWord : Cell → Type 0
HoldsWord c = IsWord c.word

loop_words : AllByRecursion HoldsWord (map (λ i. full_cell (spelling i)) loop)
unfolding packed
loop_words = (lit< tt, (lit< tt, (lit< tt, (lit< tt, (lit< tt, tt)))))

pub code_words : AllByRecursion HoldsWord code_cells
unfolding code_cells
code_words =
    let front = map (λ i. full_cell (spelling i)) loop in
    recursion_from_All HoldsWord (front ++ replicate 507 zero_cell)
    (All-append HoldsWord front (replicate 507 zero_cell) (All-from_recursion HoldsWord front loop_words) (All-replicate HoldsWord 507 zero_cell (lit< tt)))

-- what holds of a function of each number holds of its list
pub each_in_range : {X : Type 0} (P : X → Type 0) (f : ℕ → X) (a n : ℕ) → ((k : ℕ) → k < a + n → P (f k)) → AllByRecursion P (map f (range_with_len a n))
each_in_range P f a zero each = tt
each_in_range P f a (suc n) each = (each a (omega arith), each_in_range P f (a + 1) n (λ k lt. each k (omega arith)))

pub data_words : (number slot : ℕ) → number < 2 ^ 64 → AllByRecursion HoldsWord (data_cells number slot)
unfolding data_cells
data_words number slot fits = each_in_range HoldsWord (data_cell number slot) 0 512 (λ k lt. nth_number-fits number (512 * slot + k + 1) fits)

-- 2. Pages.

range_more : (n : ℕ) → range_with_len 0 (n + 1) ≡ range_with_len 0 n ++ n ∷ []
range_more n = sym (map-id (range_with_len 0 (n + 1))) ∙ map-range_with_len_more (λ k. k) 0 n n (omega arith) ∙ ap (λ ns. ns ++ n ∷ []) (map-id (range_with_len 0 n))

range_pages : (number n : ℕ) → flat_map (slot_pages number) (range_with_len 0 (n + 1)) ≡ flat_map (slot_pages number) (range_with_len 0 n) ++ slot_pages number n
range_pages number n =
    ap (flat_map (slot_pages number)) (range_more n) ∙ flat_map-append (slot_pages number) (range_with_len 0 n) (n ∷ [])
    ∙ ap (λ pages. flat_map (slot_pages number) (range_with_len 0 n) ++ pages) (append-nil (slot_pages number n))

-- the pages of one slot more
pub pages_more : (number n last : ℕ) → last ≡ nth_number number (512 * n)
    → flat_map (slot_pages number) (range_with_len 0 (n + 1)) ≡ flat_map (slot_pages number) (range_with_len 0 n) ++ pages_behind last n
unfolding slot_pages pages_behind
pages_more number n last is =
    let pages = flat_map (slot_pages number) (range_with_len 0 n) in
    let same : cells_behind last 512 ≡ data_cells number n = ap (λ x. cells_behind x 512) is ∙ cells_behind-data number n in
    range_pages number n ∙ ap (λ cells. pages ++ ((code_page n, code_cells) ∷ (data_page n, cells) ∷ [])) (sym same)

-- one page and another behind pages
pub two_pages : (pages : List (ℕ × List Cell)) (last slot : ℕ) (code words : List Cell) → code ≡ code_cells → words ≡ cells_behind last 512
    → pages ++ (code_page slot, code) ∷ [] ++ (data_page slot, words) ∷ [] ≡ pages ++ pages_behind last slot
unfolding pages_behind
two_pages pages last slot code words e f = append_assoc pages ((code_page slot, code) ∷ []) ((data_page slot, words) ∷ []) ∙ ap (λ c. pages ++ ((code_page slot, c) ∷ (data_page slot, words) ∷ [])) e
    ∙ ap (λ c. pages ++ ((code_page slot, code_cells) ∷ (data_page slot, c) ∷ [])) f

-- what holds of the two pages of each slot holds of each page
pub each_page : (P : ℕ × List Cell → Type 0) (number a n : ℕ) → ((k : ℕ) → k < a + n → P (code_page k, code_cells)) → ((k : ℕ) → k < a + n → P (data_page k, data_cells number k))
    → AllByRecursion P (flat_map (slot_pages number) (range_with_len a n))
unfolding slot_pages
each_page P number a zero code words = tt
each_page P number a (suc n) code words =
    (code a (omega arith), (words a (omega arith), each_page P number (a + 1) n (λ k lt. code k (omega arith)) (λ k lt. words k (omega arith))))

pub length-pages : (number a n : ℕ) → length (flat_map (slot_pages number) (range_with_len a n)) ≡ 2 * n
unfolding slot_pages
length-pages number a zero = refl
length-pages number a (suc n) = omega (arith, length-pages number (a + 1) n)

pub pages_rise : (number least a n : ℕ) → least ≤ code_page a → AreRisingFrom least (flat_map (slot_pages number) (range_with_len a n))
unfolding slot_pages
pages_rise number least a zero low = tt
pages_rise number least a (suc n) low = (low, (omega arith, pages_rise number (data_page a + 1) (a + 1) n (omega arith)))
