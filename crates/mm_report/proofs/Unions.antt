-- The pages of two memories, in the order of their numbers.
use Rattle.std.proofs.Common.{◌≡◌, ℕ, zero, suc, ◌+◌, ◌*◌, ◌<◌, ◌≤◌, ◌==◌, nat_eq, min, Bool, true, false, ◌&&◌}
use Rattle.std.proofs.Common.{if◌then◌else◌, List, [], ◌∷◌, ◌++◌, fold, drop, length, Option, Some, None, is_some, inl}
use Rattle.std.proofs.Common.{inr, ◌⊎◌, ◌^◌, slice_get, slice_index_or, refl, sym, ap, ◌∙◌, subst, arith, T}
use Rattle.std.proofs.lemmas.Bool.Decides.{nat_tests}
use Rattle.std.specs.{Prelude.{IsTrue, MatchOption}, Option.option_eq, List.{flat_map, AllByRecursion}}
use Rattle.std.specs.{Ordering.{nat_cmp, is_lt}, declared.cmp.Ordering.{Ordering, TheVariants.{Less, Equal, Greater}}}
use Rattle.std.specs.FinMap.{is_sorted, put, Entries.{by_order, below_all}}
use Rattle.mm_word.specs.declared.word.Cell.{Cell}
use Rattle.mm_text.specs.Appends.{Buffered, Appends}
use Rattle.mm_model.specs.Memory.{Memory, page_of, page_at, cell_at, is_mapped, zero_cell, IsPage, IsPaged}
use Rattle.mm_model.specs.Report.{page_change, page_lines, pages_of}
use Rattle.mm_mem.{specs.Places.IsAt, proofs.{Places.{held, found_at}, Flats.no_cell, PagePlaces.cell_there}}
use Rattle.mm_report.specs.{Changes.{contents, cells_of}, Pages.{numbers, first, lesser, behind}}

-- 1. Orders of numbers.

less_means : (k n : ℕ) → nat_cmp k n ≡ Less → k < n
less_means k n h = grind (arith, nat_tests)

equal_means : (k n : ℕ) → nat_cmp k n ≡ Equal → k ≡ n
equal_means k n h = grind (arith, nat_tests)

greater_means : (k n : ℕ) → nat_cmp k n ≡ Greater → n < k
greater_means k n h = grind (arith, nat_tests)

is_greater : (k n : ℕ) → n < k → nat_cmp k n ≡ Greater
is_greater k n h = grind (arith, nat_tests)

-- 2. One list of numbers put into another, and both merged.

insert : ℕ → List ℕ → List ℕ
insert k [] = k ∷ []
insert k (n ∷ ns) = by_order (nat_cmp k n) (k ∷ n ∷ ns) (n ∷ ns) (n ∷ insert k ns)

-- a number at its place before the first of a list, and then the rest
abbrev from : ℕ → (List ℕ → List ℕ) → List ℕ → List ℕ
from x rest [] = x ∷ rest []
from x rest (y ∷ ys) = by_order (nat_cmp y x) (y ∷ from x rest ys) (x ∷ rest ys) (x ∷ rest (y ∷ ys))

abbrev merge : List ℕ → List ℕ → List ℕ
merge [] ys = ys
merge (x ∷ xs) ys = from x (merge xs) ys

from_below : (x : ℕ) (rest : List ℕ → List ℕ) (ys : List ℕ) → AllByRecursion (λ y. x < y) ys → from x rest ys ≡ x ∷ rest ys
from_below x rest [] h = refl
from_below x rest (y ∷ ys) h = rw (is_greater y x h.0) refl

merge_insert : (y : ℕ) (ys : List ℕ) → AllByRecursion (λ z. y < z) ys → (xs : List ℕ) → merge (insert y xs) ys ≡ merge xs (y ∷ ys)
unfolding insert
merge_insert y ys h [] = from_below y (merge []) ys h
merge_insert y ys h (x ∷ xs) = by (nat_cmp y x) refl (merge_insert y ys h xs)
  where
    above : (zs : List ℕ) → x < y → AllByRecursion (λ z. y < z) zs → AllByRecursion (λ z. x < z) zs
    above [] lt k = tt
    above (z ∷ zs) lt k = (omega (arith, k.0), above zs lt k.1)

    by : (o : Ordering) → nat_cmp y x ≡ o → merge (insert y xs) ys ≡ merge xs (y ∷ ys)
        → merge (by_order o (y ∷ x ∷ xs) (x ∷ xs) (x ∷ insert y xs)) ys ≡ by_order o (y ∷ from x (merge xs) ys) (x ∷ merge xs ys) (x ∷ merge xs (y ∷ ys))
    by Less is later = from_below y (merge (x ∷ xs)) ys h
    by Equal is later = let same : y ≡ x = equal_means y x is in from_below x (merge xs) ys (subst (λ (k : ℕ). AllByRecursion (λ z. k < z) ys) same h)
    by Greater is later = from_below x (merge (insert y xs)) ys (above ys (greater_means y x is) h) ∙ ap (λ (ns : List ℕ). x ∷ ns) later

-- 3. The numbers of the pages of two memories.

numbers_put : (k : ℕ) (v : List Cell) (es : List (ℕ × List Cell)) → numbers (put nat_cmp k v es) ≡ insert k (numbers es)
unfolding insert
numbers_put k v [] = refl
numbers_put k v (e ∷ es) = by (nat_cmp k e.0) (numbers_put k v es)
  where
    by : (o : Ordering) → numbers (put nat_cmp k v es) ≡ insert k (numbers es)
        → numbers (by_order o ((k, v) ∷ e ∷ es) ((e.0, v) ∷ es) (e ∷ put nat_cmp k v es)) ≡ by_order o (k ∷ e.0 ∷ numbers es) (e.0 ∷ numbers es) (e.0 ∷ insert k (numbers es))
    by Less later = refl
    by Equal later = refl
    by Greater later = ap (λ (ns : List ℕ). e.0 ∷ ns) later

is_less : (o : Ordering) → T (is_lt o) → o ≡ Less
is_less Less h = refl
is_less Equal h = absurd h
is_less Greater h = absurd h

front : (a b : Bool) → T (a && b) → T a
front true b h = tt
front false b h = absurd h

rest_of : (a b : Bool) → T (a && b) → T b
rest_of true b h = h
rest_of false b h = absurd h

below_means : (y : ℕ) (es : List (ℕ × List Cell)) → T (below_all nat_cmp y es) → AllByRecursion (λ z. y < z) (numbers es)
below_means y [] h = tt
below_means y (e ∷ es) h = (
  less_means y e.0 (is_less (nat_cmp y e.0) (front (is_lt (nat_cmp y e.0)) (below_all nat_cmp y es) h)),
  below_means y es (rest_of (is_lt (nat_cmp y e.0)) (below_all nat_cmp y es) h),
)

union_numbers : (b : List (ℕ × List Cell)) → T (is_sorted nat_cmp b) → (a : List (ℕ × List Cell))
    → numbers (fold (λ pages page. put nat_cmp page.0 page.1 pages) a b) ≡ merge (numbers a) (numbers b)
union_numbers [] h a = sym (merge_none (numbers a))
  where
    merge_none : (xs : List ℕ) → merge xs [] ≡ xs
    merge_none [] = refl
    merge_none (x ∷ xs) = ap (λ (ns : List ℕ). x ∷ ns) (merge_none xs)
union_numbers (e ∷ b) h a =
    union_numbers b (rest_of (below_all nat_cmp e.0 b) (is_sorted nat_cmp b) h) (put nat_cmp e.0 e.1 a)
    ∙ ap (λ (ns : List ℕ). merge ns (numbers b)) (numbers_put e.0 e.1 a)
    ∙ merge_insert e.0 (numbers b) (below_means e.0 b (front (below_all nat_cmp e.0 b) (is_sorted nat_cmp b) h)) (numbers a)

-- 4. One number after the other.

abbrev next : Option ℕ → (ℕ → List ℕ) → List ℕ
next None rest = []
next (Some n) rest = n ∷ rest n

behind_same : (n : ℕ) (xs : List ℕ) → behind n (n ∷ xs) ≡ xs
behind_same n xs = let same : (n == n) ≡ true = grind (arith, nat_tests) in rw same refl

behind_other : (n x : ℕ) (xs : List ℕ) → (x ≡ n → ⊥) → behind n (x ∷ xs) ≡ x ∷ xs
behind_other n x xs ne = let other : (x == n) ≡ false = grind (arith, nat_tests) in rw other refl

merge_next : (xs ys : List ℕ) → merge xs ys ≡ next (lesser (first xs) (first ys)) (λ n. merge (behind n xs) (behind n ys))
merge_next [] [] = refl
merge_next [] (y ∷ ys) = ap (λ (ns : List ℕ). y ∷ ns) (sym (behind_same y ys))
merge_next (x ∷ xs) [] = ap (λ (ns : List ℕ). x ∷ merge ns []) (sym (behind_same x xs))
merge_next (x ∷ xs) (y ∷ ys) = by (nat_cmp y x) refl
  where
    by : (o : Ordering) → nat_cmp y x ≡ o → by_order o (y ∷ from x (merge xs) ys) (x ∷ merge xs ys) (x ∷ merge xs (y ∷ ys)) ≡ min x y ∷ merge (behind (min x y) (x ∷ xs)) (behind (min x y) (y ∷ ys))
    by Less is =
        let lt : y < x = less_means y x is in
        let least : min x y ≡ y = omega arith in
        rw (least, behind_same y ys, behind_other y x xs (λ e. omega arith)) refl
    by Equal is =
        let same : y ≡ x = equal_means y x is in
        let least : min x y ≡ x = omega arith in
        rw (least, behind_same x xs) (ap (λ (ns : List ℕ). x ∷ merge xs ns) (sym (behind_same x ys) ∙ ap (λ (k : ℕ). behind x (k ∷ ys)) (sym same)))
    by Greater is =
        let lt : x < y = greater_means y x is in
        let least : min x y ≡ x = omega arith in
        rw (least, behind_same x xs, behind_other x y ys (λ e. omega arith)) refl

-- 5. The lines of pages.

-- the line of a page, by its number
abbrev pub change_at : Memory → Memory → ℕ → List ℕ
change_at now was n = page_change n (is_mapped now n) (is_mapped was n)

-- the lines of the pages of two lists of numbers
abbrev pub lines_of : Memory → Memory → List ℕ → List ℕ → List ℕ
lines_of now was xs ys = flat_map (change_at now was) (merge xs ys)

by_number : (f : ℕ → List ℕ) (pages : List (ℕ × List Cell)) → flat_map (λ page. f page.0) pages ≡ flat_map f (numbers pages)
by_number f [] = refl
by_number f (page ∷ pages) = ap (λ (text : List ℕ). f page.0 ++ text) (by_number f pages)

pub all_lines : (now was : Memory) → IsTrue (is_sorted nat_cmp was.pages) → page_lines now was ≡ lines_of now was (numbers now.pages) (numbers was.pages)
all_lines now was sorted = by_number (change_at now was) (pages_of now was) ∙ ap (flat_map (change_at now was)) (union_numbers was.pages (held (is_sorted nat_cmp was.pages) sorted) now.pages)

pub no_lines : (now was : Memory) (xs ys : List ℕ) → lesser (first xs) (first ys) ≡ None → lines_of now was xs ys ≡ []
no_lines now was xs ys none = ap (flat_map (change_at now was)) (merge_next xs ys ∙ ap (λ (o : Option ℕ). next o (λ n. merge (behind n xs) (behind n ys))) none)

pub one_line : (now was : Memory) (xs ys : List ℕ) (n : ℕ) → lesser (first xs) (first ys) ≡ Some n
    → lines_of now was xs ys ≡ change_at now was n ++ lines_of now was (behind n xs) (behind n ys)
one_line now was xs ys n is = ap (flat_map (change_at now was)) (merge_next xs ys ∙ ap (λ (o : Option ℕ). next o (λ n. merge (behind n xs) (behind n ys))) is)

one_of_two : (x y : ℕ) → (min x y ≡ x) ⊎ (min x y ≡ y)
one_of_two x y = grind arith

no_longer : (n : ℕ) (xs : List ℕ) → length (behind n xs) ≤ length xs
no_longer n [] = omega arith
no_longer n (x ∷ xs) = by (x == n)
  where
    by : (b : Bool) → length (if b then xs else x ∷ xs) ≤ suc (length xs)
    by true = omega arith
    by false = omega arith

-- the place behind a line is nearer to the end
pub shorter : (xs ys : List ℕ) (n : ℕ) → lesser (first xs) (first ys) ≡ Some n → length (behind n xs) + length (behind n ys) < length xs + length ys
shorter [] [] n e = cc
shorter [] (y ∷ ys) n e = let same : y ≡ n = cc in rw (same, behind_same n ys) (omega arith)
shorter (x ∷ xs) [] n e = let same : x ≡ n = cc in rw (same, behind_same n xs) (omega arith)
shorter (x ∷ xs) (y ∷ ys) n e =
    let least : min x y ≡ n = cc in
    elim (one_of_two x y) [
      | inl is ↦ let same : x ≡ n = sym is ∙ least in omega (arith, no_longer n (y ∷ ys), ap length (ap (λ (k : ℕ). behind k (x ∷ xs)) (sym same) ∙ behind_same x xs))
      | inr is ↦ let same : y ≡ n = sym is ∙ least in omega (arith, no_longer n (x ∷ xs), ap length (ap (λ (k : ℕ). behind k (y ∷ ys)) (sym same) ∙ behind_same y ys))
    ]

-- the lines up to two places are written, and the others follow
pub record Written {S : Type 0} (taken : S → Option (List ℕ)) (faults : S → ℕ) (old_out new_out : S) (old new : Buffered) (now was : Memory) (i j : ℕ) : Type 0 where
  pub text : List ℕ
  pub gathered : Appends taken faults old_out new_out old new text
  pub rest : text ++ lines_of now was (drop i (numbers now.pages)) (drop j (numbers was.pages)) ≡ page_lines now was
  pub mapped : i ≤ length now.pages
  pub had : j ≤ length was.pages

-- 6. Places of lists of pages.

pub head_at : (es : List (ℕ × List Cell)) (i : ℕ) (d : ℕ × List Cell) → i < length es → first (drop i (numbers es)) ≡ Some (slice_index_or es i d).0
head_at [] i d h = absurd (omega arith)
head_at (e ∷ es) zero d h = refl
head_at (e ∷ es) (suc i) d h = head_at es i d (omega arith)

got_at : (xs : List ℕ) (i n : ℕ) → slice_get xs i ≡ Some n → first (drop i xs) ≡ Some n
got_at [] i n e = cc
got_at (x ∷ xs) zero n e = e
got_at (x ∷ xs) (suc i) n e = got_at xs i n e

pub mapped_head : (es : List (ℕ × List Cell)) (i n : ℕ) → slice_get (numbers es) i ≡ Some n → first (drop i (numbers es)) ≡ Some n
mapped_head es i n e = got_at (numbers es) i n e

pub rest_behind : (xs : List ℕ) (i n : ℕ) → first (drop i xs) ≡ Some n → drop (i + 1) xs ≡ behind n (drop i xs)
rest_behind [] zero n e = cc
rest_behind [] (suc i) n e = cc
rest_behind (x ∷ xs) zero n e = let same : x ≡ n = cc in sym (ap (λ (k : ℕ). behind k (x ∷ xs)) (sym same) ∙ behind_same x xs)
rest_behind (x ∷ xs) (suc i) n e = ap (λ (k : ℕ). drop k (x ∷ xs)) (let z : suc i + 1 ≡ suc (i + 1) = omega arith in z) ∙ rest_behind xs i n e

pub inside : (xs : List ℕ) (i n : ℕ) → first (drop i xs) ≡ Some n → i < length xs
inside [] zero n e = cc
inside [] (suc i) n e = cc
inside (x ∷ xs) zero n e = omega arith
inside (x ∷ xs) (suc i) n e = let later = inside xs i n e in omega arith

small_head : (es : List (ℕ × List Cell)) (i n : ℕ) → AllByRecursion IsPage es → first (drop i (numbers es)) ≡ Some n → n < 2 ^ 42
small_head [] zero n h e = cc
small_head [] (suc i) n h e = cc
small_head (page ∷ es) zero n h e = let same : page.0 ≡ n = cc in subst (λ (k : ℕ). k < 2 ^ 42) same h.0.number
small_head (page ∷ es) (suc i) n h e = small_head es i n h.1 e

one_head : (a b : Option ℕ) (n : ℕ) → lesser a b ≡ Some n → (a ≡ Some n) ⊎ (b ≡ Some n)
one_head None b n e = inr e
one_head (Some x) None n e = inl e
one_head (Some x) (Some y) n e =
    let least : min x y ≡ n = cc in
    elim (one_of_two x y) [ inl is ↦ inl (ap (λ (k : ℕ). Some k) (sym is ∙ least)) | inr is ↦ inr (ap (λ (k : ℕ). Some k) (sym is ∙ least)) ]

pub small_number : (now was : List (ℕ × List Cell)) (i j n : ℕ) → AllByRecursion IsPage now → AllByRecursion IsPage was
    → lesser (first (drop i (numbers now))) (first (drop j (numbers was))) ≡ Some n → n < 2 ^ 42
small_number now was i j n h k e = elim (one_head (first (drop i (numbers now))) (first (drop j (numbers was))) n e) [
  | inl is ↦ small_head now i n h is
  | inr is ↦ small_head was j n k is
]

pub length_numbers : (es : List (ℕ × List Cell)) → length (numbers es) ≡ length es
length_numbers [] = refl
length_numbers (e ∷ es) = ap suc (length_numbers es)

-- a test that an option is some number
pub equal_says : (o : Option ℕ) (n : ℕ) → true ≡ option_eq nat_eq o (Some n) → o ≡ Some n
equal_says None n e = cc
equal_says (Some x) n e = ap (λ (k : ℕ). Some k) (let same : x ≡ n = grind (arith, nat_tests) in same)

not_some : {A : Type 0} (o : Option A) → is_some o ≡ false → o ≡ None
not_some None e = refl
not_some (Some x) e = cc

pub mapped_word : (m : Memory) (p : ℕ) → IsPaged m → is_some (cell_at m (p * 4096)) ≡ is_mapped m p
mapped_word m p paged = by (is_mapped m p) refl
  where
    by : (b : Bool) → is_mapped m p ≡ b → is_some (cell_at m (p * 4096)) ≡ is_mapped m p
    by true is =
        let word : cell_at m (p * 4096 + 8 * 0) ≡ Some (slice_index_or (cells_of m p) 0 zero_cell) = cell_there m p 0 paged is (omega arith) in
        let same : p * 4096 + 8 * 0 ≡ p * 4096 = omega arith in
        let there : cell_at m (p * 4096) ≡ Some (slice_index_or (cells_of m p) 0 zero_cell) = ap (λ (w : ℕ). cell_at m w) (sym same) ∙ word in
        ap is_some there ∙ sym is
    by false is =
        let page : page_of (p * 4096) ≡ p = omega arith in
        let none : page_at m (page_of (p * 4096)) ≡ None = ap (page_at m) page ∙ not_some (page_at m p) is in
        ap is_some (no_cell m (p * 4096) none) ∙ sym is

pub was_mapped : (pages : List (ℕ × List Cell)) (number : ℕ) (o : Option ℕ) → IsTrue (is_sorted nat_cmp pages) → MatchOption o (page_at (contents pages) number ≡ None) (IsAt number pages)
    → is_some o ≡ is_mapped (contents pages) number
was_mapped pages number None sorted h = sym (ap is_some h)
was_mapped pages number (Some i) sorted h = sym (ap is_some (found_at number pages i (held (is_sorted nat_cmp pages) sorted) h (0, [])))
