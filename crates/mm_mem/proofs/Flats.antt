-- What an edit at a place of the list of pages is of a flat memory.
use Rattle.std.proofs.Common.{subst, is_some, ◌&&◌, nat_lt, ◌≡◌, ℕ, ◌%◌, ◌<◌, ◌≤◌, Bool, true, false, not, List, length}
use Rattle.std.proofs.Common.{get_or, set, Option, Some, None, Result, Ok, Err, IfErr, slice_get, slice_set, inl, inr}
use Rattle.std.proofs.{Common.{refl, sym, ap, arith, ◌∙◌, if◌then◌else◌}, lemmas.Bool.Decides.nat_tests}
use Rattle.std.specs.{Option.IfNone, Result.result_ok, List.{insert, remove}}
use Rattle.mm_word.specs.declared.word.Cell.{Cell}
use Rattle.mm_model.specs.Memory.{Memory, page_of, place_of, cell_in, page_at, is_mapped, cell_at, put_cell, put_in}
use Rattle.mm_model.specs.Memory.{can_map, map_page, unmap_page, zero_page, IsPaged}
use Rattle.mm_model.proofs.Memories.{cell_at-aligned, cell_at-unaligned, word_or_none}
use Rattle.mm_mem.specs.{Answers.{after_map, after_unmap}, Places.{IsAt, IsGap}}
use Rattle.mm_mem.proofs.Places.{held, found_at, absent_in_gap, set_at, insert_in_gap, remove_at}

abbrev pub Pages : Type 0
Pages = List (ℕ × List Cell)

abbrev pub flat : Pages → ℕ → Memory
flat es n = record { pages = es; frames = n }

-- the cells of a page are those of the entry at its place
pub page_here : (m : Memory) (k i : ℕ) (e : ℕ × List Cell) → IsPaged m → IsAt k m.pages i → e ≡ get_or m.pages i e → page_at m k ≡ Some e.1
page_here m k i e paged at is = found_at k m.pages i (held _ paged.pages.rising) at e ∙ ap (λ (x : ℕ × List Cell). Some x.1) (sym is)

-- what is read there
pub cell_here : (m : Memory) (w i : ℕ) (e : ℕ × List Cell) (c : Cell) → IsPaged m → IsAt (page_of w) m.pages i → e ≡ get_or m.pages i e → w % 8 ≡ 0 → slice_get e.1 (place_of w) ≡ Some c
    → cell_at m w ≡ Some c
cell_here m w i e c paged at is aligned read = cell_at-aligned m w aligned ∙ ap (λ o. cell_in o (place_of w)) (page_here m (page_of w) i e paged at is) ∙ read

-- what is written there
pub put_here : (m : Memory) (w i : ℕ) (e new : ℕ × List Cell) (c : Cell) → IsPaged m → IsAt (page_of w) m.pages i → e ≡ get_or m.pages i e → new ≡ (e.0, slice_set e.1 (place_of w) c)
    → flat (set m.pages i new) m.frames ≡ put_cell m w c
unfolding put_cell
put_here m w i e new c paged at is made =
    let cells = slice_set e.1 (place_of w) c in
    let number : e.0 ≡ page_of w = ap (λ (x : ℕ × List Cell). x.0) is ∙ at.has_number e in
    ap (λ x. flat (set m.pages i x) m.frames) (made ∙ ap (λ (n : ℕ). (n, cells)) number)
    ∙ ap (λ es. flat es m.frames) (set_at (page_of w) cells m.pages i (held _ paged.pages.rising) at)
    ∙ sym (ap (λ o. put_in m o w c) (page_here m (page_of w) i e paged at is))

pub mapped_here : (m : Memory) (k i : ℕ) → IsPaged m → IsAt k m.pages i → is_mapped m k ≡ true
mapped_here m k i paged at = ap is_some (found_at k m.pages i (held _ paged.pages.rising) at (0, zero_page))

pub not_mapped : (m : Memory) (k i : ℕ) → IsGap k m.pages i → is_mapped m k ≡ false
not_mapped m k i gap = ap is_some (absent_in_gap k m.pages i gap)

-- a word whose page is not mapped has no cell
pub no_cell : (m : Memory) (w : ℕ) → page_at m (page_of w) ≡ None → cell_at m w ≡ None
no_cell m w h = elim (word_or_none w) [
  | inl a ↦ cell_at-aligned m w a ∙ ap (λ o. cell_in o (place_of w)) h
  | inr odd ↦ cell_at-unaligned m w odd
]

-- a search that ends in a gap says that the word's page is not mapped, and that the word has no cell
pub unmapped_unless : (m : Memory) (w : ℕ) (r : Result ℕ ℕ) (o : Option ℕ) → o ≡ result_ok r → IfErr r (IsGap (page_of w) m.pages) → IfNone o (page_at m (page_of w) ≡ None)
unmapped_unless m w (Ok i) None e gap = cc
unmapped_unless m w (Ok i) (Some j) e gap = tt
unmapped_unless m w (Err i) None e gap = absent_in_gap (page_of w) m.pages i gap
unmapped_unless m w (Err i) (Some j) e gap = tt

pub absent_unless : (m : Memory) (w : ℕ) (r : Result ℕ ℕ) (o : Option ℕ) → o ≡ result_ok r → IfErr r (IsGap (page_of w) m.pages) → IfNone o (cell_at m w ≡ None)
absent_unless m w (Ok i) None e gap = cc
absent_unless m w (Ok i) (Some j) e gap = tt
absent_unless m w (Err i) None e gap = no_cell m w (absent_in_gap (page_of w) m.pages i gap)
absent_unless m w (Err i) (Some j) e gap = tt

-- the test of `can_map`, by its two parts

both : (a b : Bool) → a ≡ false → b ≡ true → (not a && b) ≡ true
both a b p q = grind (arith, p, q)

mapped_already : (a b : Bool) → a ≡ true → (not a && b) ≡ false
mapped_already a b p = grind (arith, p)

no_frame : (a b : Bool) → b ≡ false → (not a && b) ≡ false
no_frame true b p = refl
no_frame false b p = p

pub cannot_map_again : (m : Memory) (k i : ℕ) → IsPaged m → IsAt k m.pages i → can_map m k ≡ false
unfolding can_map
cannot_map_again m k i paged at = mapped_already _ _ (mapped_here m k i paged at)

pub cannot_map_full : (m : Memory) (k : ℕ) → m.frames ≤ length m.pages → can_map m k ≡ false
unfolding can_map
cannot_map_full m k full = let none_left : nat_lt (length m.pages) m.frames ≡ false = grind (arith, nat_tests) in no_frame _ _ none_left

pub can_map_here : (m : Memory) (k i : ℕ) → IsGap k m.pages i → length m.pages < m.frames → can_map m k ≡ true
unfolding can_map
can_map_here m k i gap room = let one_left : nat_lt (length m.pages) m.frames ≡ true = grind (arith, nat_tests) in both _ _ (not_mapped m k i gap) one_left

-- what a call leaves, by its answer

pub map_refused : (m : Memory) (k : ℕ) → can_map m k ≡ false → m ≡ after_map m k
map_refused m k h = sym (ap (λ (b : Bool). if b then map_page m k else m) h)

pub map_done : (m : Memory) (k : ℕ) → can_map m k ≡ true → map_page m k ≡ after_map m k
map_done m k h = sym (ap (λ (b : Bool). if b then map_page m k else m) h)

pub unmap_refused : (m : Memory) (k : ℕ) → is_mapped m k ≡ false → m ≡ after_unmap m k
unmap_refused m k h = sym (ap (λ (b : Bool). if b then unmap_page m k else m) h)

pub unmap_done : (m : Memory) (k : ℕ) → is_mapped m k ≡ true → unmap_page m k ≡ after_unmap m k
unmap_done m k h = sym (ap (λ (b : Bool). if b then unmap_page m k else m) h)

-- a page of zeros in its gap
pub map_here : (m : Memory) (k i : ℕ) (new : Pages) → IsGap k m.pages i → new ≡ insert m.pages i (k, zero_page) → flat new m.frames ≡ map_page m k
unfolding map_page
map_here m k i new gap is = ap (λ es. flat es m.frames) (is ∙ insert_in_gap k zero_page m.pages i gap)

-- a page that is taken out
pub unmap_here : (m : Memory) (k i : ℕ) (new : Pages) → IsPaged m → IsAt k m.pages i → new ≡ remove m.pages i → flat new m.frames ≡ unmap_page m k
unfolding unmap_page
unmap_here m k i new paged at is = ap (λ es. flat es m.frames) (is ∙ remove_at k m.pages i (held _ paged.pages.rising) at)

-- pages stay whole and in order

pub same_paged : (m n : Memory) → n ≡ m → IsPaged m → IsPaged n
same_paged m n is h = subst IsPaged (sym is) h
