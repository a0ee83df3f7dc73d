-- The pages and cells of a memory under lines; two such memories are one where their cells are.
use Rattle.std.proofs.Common.{◌≡◌, ◌≢◌, ℕ, zero, suc, ◌+◌, ◌/◌, ◌%◌, ◌==◌, if◌then◌else◌, get_or, cond, is_some, Bool}
use Rattle.std.proofs.Common.{true, false, ◌&&◌, T, IsTrue, List, [], ◌∷◌, Option, None, Some, slice_get, option_map}
use Rattle.std.proofs.Common.{refl, sym, ap, subst, arith, ◌∙◌, ◌⊎◌, inl, inr}
use Rattle.std.proofs.lemmas.{Cmp.nat_cmp_total, Bool.{cases_eq, Decides.nat_tests}, Option.same_Some}
use Rattle.std.specs.{Prelude.{map, length}, List.AllByRecursion, Ordering.{nat_cmp, eq_by_cmp, is_lt}}
use Rattle.std.specs.FinMap.{find, put, is_sorted, nat_cmp-IsAntisymmetric}
use Rattle.std.specs.FinMap.Entries.{below_all, same_entries, is_sorted-put}
use Rattle.mm_model.proofs.Memories.{truth}
use Rattle.mm_model.specs.{Memory.{Memory, page_at, is_mapped, cell_in, IsPage, IsPaged}, Counted.page_of_block}
use Rattle.mm_word.specs.declared.word.Cell.{Cell}
use Rattle.mm_cache.specs.{declared.line.CacheLine.CacheLine, Lines.line_in, Over.{over_cell, lay, over}}

-- memories

pub held : (b : Bool) → IsTrue b → T b
held b h = subst T (sym h) tt

pub put_rises : (k : ℕ) (v : List Cell) (es : List (ℕ × List Cell)) → IsTrue (is_sorted nat_cmp es) → IsTrue (is_sorted nat_cmp (put nat_cmp k v es))
put_rises k v es rises = truth (is_sorted nat_cmp (put nat_cmp k v es)) (is_sorted-put nat_cmp nat_cmp_total k v es (held (is_sorted nat_cmp es) rises))

-- the numbers of the pages rise
abbrev pub Rises : Memory → Type 0
Rises m = IsTrue (is_sorted nat_cmp m.pages)

same_memory : (m n : Memory) → Rises m → Rises n → m.frames ≡ n.frames → ((k : ℕ) → page_at m k ≡ page_at n k) → m ≡ n
same_memory m n m_rises n_rises frames pages =
    let same : m.pages ≡ n.pages = same_entries nat_cmp nat_cmp_total nat_cmp-IsAntisymmetric m.pages n.pages (held (is_sorted nat_cmp m.pages) m_rises)
    (held (is_sorted nat_cmp n.pages) n_rises) pages in
    λ i. record { pages = same i; frames = frames i }

-- lists with the same elements
pub same_list : {A : Type 0} (xs ys : List A) → ((j : ℕ) → slice_get xs j ≡ slice_get ys j) → xs ≡ ys
same_list [] [] same = refl
same_list [] (y ∷ ys) same = let h = same 0 in cc
same_list (x ∷ xs) [] same = let h = same 0 in cc
same_list (x ∷ xs) (y ∷ ys) same =
    let head = same_Some x y (same 0) in
    let rest = same_list xs ys (λ j. same (suc j)) in
    λ i. head i ∷ rest i

-- memories with the same pages and cells
pub same_cells : (m n : Memory) → Rises m → Rises n → m.frames ≡ n.frames → ((k : ℕ) → is_mapped m k ≡ is_mapped n k) → ((k j : ℕ) → cell_in (page_at m k) j ≡ cell_in (page_at n k) j) → m ≡ n
same_cells m n m_rises n_rises frames pages cells = same_memory m n m_rises n_rises frames (λ k. both (page_at m k) (page_at n k) (pages k) (cells k))
  where
    both : (a b : Option (List Cell)) → is_some a ≡ is_some b → ((j : ℕ) → cell_in a j ≡ cell_in b j) → a ≡ b
    both None None some same = refl
    both None (Some ds) some same = cc
    both (Some cs) None some same = cc
    both (Some cs) (Some ds) some same = ap (λ (xs : List Cell). Some xs) (same_list cs ds same)

-- pages under lines

-- each page's cells by a function of its number
abbrev mapped : (ℕ → List Cell → List Cell) → List (ℕ × List Cell) → List (ℕ × List Cell)
mapped f es = map (λ e. (e.0, f e.0 e.1)) es

key_of : (q k : ℕ) → eq_by_cmp nat_cmp q k ≡ true → q ≡ k
key_of q k h = grind (arith, nat_tests, h)

find_mapped : (f : ℕ → List Cell → List Cell) (q : ℕ) (es : List (ℕ × List Cell)) → find nat_cmp q (mapped f es) ≡ option_map (f q) (find nat_cmp q es)
find_mapped f q [] = refl
find_mapped f q (e ∷ es) =
    elim (eq_by_cmp nat_cmp q e.0) as (λ b. eq_by_cmp nat_cmp q e.0 ≡ b → cond b (Some (f e.0 e.1)) (find nat_cmp q (mapped f es)) ≡ option_map (f q) (cond b (Some e.1) (find nat_cmp q es))) [
      | true ↦ λ t. ap (λ (k : ℕ). Some (f k e.1)) (sym (key_of q e.0 t))
      | false ↦ λ t. find_mapped f q es
    ] refl

below_mapped : (f : ℕ → List Cell → List Cell) (k : ℕ) (es : List (ℕ × List Cell)) → below_all nat_cmp k (mapped f es) ≡ below_all nat_cmp k es
below_mapped f k [] = refl
below_mapped f k (e ∷ es) = ap (λ b. is_lt (nat_cmp k e.0) && b) (below_mapped f k es)

sorted_mapped : (f : ℕ → List Cell → List Cell) (es : List (ℕ × List Cell)) → is_sorted nat_cmp (mapped f es) ≡ is_sorted nat_cmp es
sorted_mapped f [] = refl
sorted_mapped f (e ∷ es) = ap (λ b. b && is_sorted nat_cmp (mapped f es)) (below_mapped f e.0 es) ∙ ap (λ b. below_all nat_cmp e.0 es && b) (sorted_mapped f es)

length_mapped : (f : ℕ → List Cell → List Cell) (es : List (ℕ × List Cell)) → length (mapped f es) ≡ length es
length_mapped f [] = refl
length_mapped f (e ∷ es) = ap suc (length_mapped f es)

abbrev laid : List (Option CacheLine) → ℕ → List Cell → List Cell
laid ls k cells = lay ls k 0 cells

pub page_over : (m : Memory) (ls : List (Option CacheLine)) (k : ℕ) → page_at (over m ls) k ≡ option_map (λ (cells : List Cell). lay ls k 0 cells) (page_at m k)
unfolding over
page_over m ls k = find_mapped (laid ls) k m.pages

pub over_frames : (m : Memory) (ls : List (Option CacheLine)) → (over m ls).frames ≡ m.frames
unfolding over
over_frames m ls = refl

pub over_rises : (m : Memory) (ls : List (Option CacheLine)) → Rises m → Rises (over m ls)
unfolding over
over_rises m ls rises = sorted_mapped (laid ls) m.pages ∙ rises

pub over_count : (m : Memory) (ls : List (Option CacheLine)) → length (over m ls).pages ≡ length m.pages
unfolding over
over_count m ls = length_mapped (laid ls) m.pages

pub mapped_over : (m : Memory) (ls : List (Option CacheLine)) (k : ℕ) → is_mapped (over m ls) k ≡ is_mapped m k
mapped_over m ls k = ap is_some (page_over m ls k) ∙ of_page (page_at m k)
  where
    of_page : (o : Option (List Cell)) → is_some (option_map (λ (cells : List Cell). lay ls k 0 cells) o) ≡ is_some o
    of_page None = refl
    of_page (Some cs) = refl

lay_length : (ls : List (Option CacheLine)) (k n : ℕ) (cells : List Cell) → length (lay ls k n cells) ≡ length cells
lay_length ls k n [] = refl
lay_length ls k n (c ∷ cells) = ap suc (lay_length ls k (suc n) cells)

whole_mapped : (ls : List (Option CacheLine)) (es : List (ℕ × List Cell)) → AllByRecursion IsPage es → AllByRecursion IsPage (mapped (laid ls) es)
whole_mapped ls [] h = tt
whole_mapped ls (e ∷ es) h = (record { number = h.0.number; cells = lay_length ls e.0 0 e.1 ∙ h.0.cells }, whole_mapped ls es h.1)

-- a memory of whole pages is one under lines too
pub over_paged : (m : Memory) (ls : List (Option CacheLine)) → IsPaged m → IsPaged (over m ls)
unfolding over
over_paged m ls paged = record {
  pages = record { rising = sorted_mapped (laid ls) m.pages ∙ paged.pages.rising; whole = whole_mapped ls m.pages paged.pages.whole };
  fitting = omega (arith, length_mapped (laid ls) m.pages, paged.fitting);
}

-- cells under lines

-- a line shows its cells in its page
pub shown : (l : CacheLine) (k j : ℕ) (c : Cell) → page_of_block l.block ≡ k → over_cell (Some l) k j c ≡ get_or l.cells (j % 8) c
shown l k j c same =
    let test : (page_of_block l.block == k) ≡ true = grind (arith, nat_tests, same) in
    ap (λ (b : Bool). if b then get_or l.cells (j % 8) c else c) test

-- the line shows in no other page
pub hidden : (l : CacheLine) (k j : ℕ) (c : Cell) → page_of_block l.block ≢ k → over_cell (Some l) k j c ≡ c
hidden l k j c other =
    let test : (page_of_block l.block == k) ≡ false = grind (arith, nat_tests, other) in
    ap (λ (b : Bool). if b then get_or l.cells (j % 8) c else c) test

-- a cell under the lines
abbrev pub cell_over : List (Option CacheLine) → ℕ → ℕ → Option Cell → Option Cell
cell_over ls k j o = option_map (over_cell (line_in ls (j / 8)) k j) o

add_none : (n : ℕ) → n ≡ n + 0
add_none n = omega arith

add_one : (n j : ℕ) → suc n + j ≡ n + suc j
add_one n j = omega arith

lay_get : (ls : List (Option CacheLine)) (k n : ℕ) (cs : List Cell) (j : ℕ) → slice_get (lay ls k n cs) j ≡ cell_over ls k (n + j) (slice_get cs j)
lay_get ls k n [] j = refl
lay_get ls k n (c ∷ cs) zero = ap (λ (x : ℕ). Some (over_cell (line_in ls (x / 8)) k x c)) (add_none n)
lay_get ls k n (c ∷ cs) (suc j) = lay_get ls k (suc n) cs j ∙ ap (λ (x : ℕ). cell_over ls k x (slice_get cs j)) (add_one n j)

none_and : (j : ℕ) → 0 + j ≡ j
none_and j = omega arith

-- each cell is over the memory's
pub seen : (m : Memory) (ls : List (Option CacheLine)) (k j : ℕ) → cell_in (page_at (over m ls) k) j ≡ cell_over ls k j (cell_in (page_at m k) j)
seen m ls k j = ap (λ (o : Option (List Cell)). cell_in o j) (page_over m ls k) ∙ of_page (page_at m k)
  where
    of_page : (o : Option (List Cell)) → cell_in (option_map (λ (cells : List Cell). lay ls k 0 cells) o) j ≡ cell_over ls k j (cell_in o j)
    of_page None = refl
    of_page (Some cs) = lay_get ls k 0 cs j ∙ ap (λ (x : ℕ). cell_over ls k x (slice_get cs j)) (none_and j)

-- two memories under two rows of lines
pub over_alike : (m n : Memory) (ls ks : List (Option CacheLine)) → Rises m → Rises n → m.frames ≡ n.frames → ((k : ℕ) → is_mapped m k ≡ is_mapped n k) →
    ((k j : ℕ) → cell_over ls k j (cell_in (page_at m k) j) ≡ cell_over ks k j (cell_in (page_at n k) j)) → over m ls ≡ over n ks
over_alike m n ls ks m_rises n_rises frames pages cells = same_cells _ _ (over_rises m ls m_rises) (over_rises n ks n_rises) (over_frames m ls ∙ frames ∙ sym (over_frames n ks))
    (λ k. mapped_over m ls k ∙ pages k ∙ sym (mapped_over n ks k))
    (λ k j. seen m ls k j ∙ cells k j ∙ sym (seen n ks k j))

-- lines that differ in one place, and there give the same cells
pub over_line : (m : Memory) (ls ks : List (Option CacheLine)) (i : ℕ) → Rises m → ((j : ℕ) → i ≢ j → line_in ls j ≡ line_in ks j) →
    ((k j : ℕ) (c : Cell) → cell_in (page_at m k) j ≡ Some c → j / 8 ≡ i → over_cell (line_in ls i) k j c ≡ over_cell (line_in ks i) k j c) → over m ls ≡ over m ks
over_line m ls ks i rises others here = over_alike m m ls ks rises rises refl (λ k. refl) (λ k j. at k j (cell_in (page_at m k) j) refl (cases_eq i (j / 8)))
  where
    at : (k j : ℕ) (o : Option Cell) → cell_in (page_at m k) j ≡ o → (i ≡ j / 8) ⊎ (i ≢ j / 8) → cell_over ls k j o ≡ cell_over ks k j o
    at k j None is where_ = refl
    at k j (Some c) is (inl same) = ap (λ (x : Cell). Some x) (ap (λ (n : ℕ). over_cell (line_in ls n) k j c) (sym same) ∙ here k j c is (sym same)
        ∙ ap (λ (n : ℕ). over_cell (line_in ks n) k j c) same)
    at k j (Some c) is (inr other) = ap (λ (l : Option CacheLine). Some (over_cell l k j c)) (others (j / 8) other)
