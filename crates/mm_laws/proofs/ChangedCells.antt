-- Which cells differ from the image's, word by word.
use Rattle.std.proofs.Common.{◌≡◌, ◌≢◌, ℕ, zero, suc, ◌+◌, ◌*◌, ◌%◌, ◌<◌, ◌≤◌, ◌⊎◌, inl, inr, Bool, true, false, cond}
use Rattle.std.proofs.Common.{if◌then◌else◌, List, [], ◌∷◌, ◌++◌, length, replicate, slice_get, Option, Some, None}
use Rattle.std.proofs.Common.{refl, sym, ap, ◌∙◌, subst, arith, T, eq-eqb, nat_eq}
use Rattle.std.proofs.lemmas.Bool.{ne_eqb, Decides.nat_tests}
use Rattle.std.specs.{List.{AllByRecursion, flat_map}, Ordering.nat_cmp, FinMap.{find, is_sorted, Entries.below_all}}
use Rattle.std.specs.Cmp.{unsigned_tied}
use Rattle.mm_word.specs.declared.word.Cell.{Cell}
use Rattle.mm_model.specs.Memory.{Memory, page_of, place_of, page_at, cell_in, cell_at, zero_cell, IsPage, IsPaged}
use Rattle.mm_model.specs.Report.{same_cell, cells_or_zero, changes_from, changes}
use Rattle.mm_model.proofs.{CoreRows.each_map, Memories.{cell_at-aligned, aligned, page_whole, zeros_get}}
use Rattle.mm_laws.proofs.CellViews.{IsIn, Rising}

-- 1. Lists.

pub in_left : {A : Type 0} (x : A) (xs ys : List A) → IsIn x xs → IsIn x (xs ++ ys)
in_left x [] ys h = absurd h
in_left x (y ∷ xs) ys (inl e) = inl e
in_left x (y ∷ xs) ys (inr h) = inr (in_left x xs ys h)

pub in_right : {A : Type 0} (x : A) (xs ys : List A) → IsIn x ys → IsIn x (xs ++ ys)
in_right x [] ys h = h
in_right x (y ∷ xs) ys h = inr (in_right x xs ys h)

pub in_either : {A : Type 0} (x : A) (xs ys : List A) → IsIn x (xs ++ ys) → IsIn x xs ⊎ IsIn x ys
in_either x [] ys h = inr h
in_either x (y ∷ xs) ys (inl e) = inl (inl e)
in_either x (y ∷ xs) ys (inr h) = elim (in_either x xs ys h) [
  | inl a ↦ inl (inr a)
  | inr b ↦ inr b
]

pub each_of_in : {A : Type 0} (P : A → Type 0) (x : A) (xs : List A) → AllByRecursion P xs → IsIn x xs → P x
each_of_in P x [] h is = absurd is
each_of_in P x (y ∷ xs) h (inl e) = subst P (sym e) h.0
each_of_in P x (y ∷ xs) h (inr is) = each_of_in P x xs h.1 is

each_append : {A : Type 0} (P : A → Type 0) (xs ys : List A) → AllByRecursion P xs → AllByRecursion P ys → AllByRecursion P (xs ++ ys)
each_append P [] ys h k = k
each_append P (x ∷ xs) ys h k = (h.0, each_append P xs ys h.1 k)

pub in_flat : {A B : Type 0} (f : A → List B) (x : B) (y : A) (ys : List A) → IsIn y ys → IsIn x (f y) → IsIn x (flat_map f ys)
in_flat f x y [] h k = absurd h
in_flat f x y (z ∷ ys) (inl e) k = in_left x (f z) (flat_map f ys) (subst (λ v. IsIn x (f v)) e k)
in_flat f x y (z ∷ ys) (inr h) k = in_right x (f z) (flat_map f ys) (in_flat f x y ys h k)

pub record FlatFrom {A B : Type 0} (f : A → List B) (x : B) (ys : List A) : Type 0 where
  pub from : A
  pub among : IsIn from ys
  pub inside : IsIn x (f from)

pub flat_from : {A B : Type 0} (f : A → List B) (x : B) (ys : List A) → IsIn x (flat_map f ys) → FlatFrom f x ys
flat_from f x [] h = absurd h
flat_from f x (z ∷ ys) h = elim (in_either x (f z) (flat_map f ys) h) [
  | inl a ↦ record { from = z; among = inl refl; inside = a }
  | inr b ↦ let rest = flat_from f x ys b in record { from = rest.from; among = inr rest.among; inside = rest.inside }
]

-- 2. The cells of one page that differ.

-- a cell of a page at its word, which is not the one that it is compared with
pub record DiffersIn (start : ℕ) (cells was : List Cell) (w : ℕ) (c : Cell) : Type 0 where
  pub place : ℕ
  pub word : w ≡ start + 8 * place
  pub here : slice_get cells place ≡ Some c
  pub before : Cell
  pub there : slice_get was place ≡ Some before
  pub differs : same_cell c before ≡ false

differs_later : (start : ℕ) (x y : Cell) (cells was : List Cell) (w : ℕ) (c : Cell) → DiffersIn (start + 8) cells was w c → DiffersIn start (x ∷ cells) (y ∷ was) w c
differs_later start x y cells was w c h = let word = h.word in record { place = suc h.place; word = omega arith; here = h.here; before = h.before; there = h.there; differs = h.differs }

pub in_changes_from : (start : ℕ) (cells was : List Cell) (w : ℕ) (c : Cell) → IsIn (w, c) (changes_from start cells was) → DiffersIn start cells was w c
in_changes_from start [] was w c h = absurd h
in_changes_from start (x ∷ cells) [] w c h = absurd h
in_changes_from start (x ∷ cells) (y ∷ was) w c h = by (same_cell x y) refl h (λ k. differs_later start x y cells was w c (in_changes_from (start + 8) cells was w c k))
  where
    by : (b : Bool) → same_cell x y ≡ b → IsIn (w, c) ((if b then [] else (start, x) ∷ []) ++ changes_from (start + 8)
        cells was) → (IsIn (w, c) (changes_from (start + 8) cells was) → DiffersIn start (x ∷ cells) (y ∷ was) w c)
        → DiffersIn start (x ∷ cells) (y ∷ was) w c
    by true e k later = later k
    by false e (inl first) later =
        let at : w ≡ start = ap (λ (p : ℕ × Cell). p.0) first in
        let cell : x ≡ c = sym (ap (λ (p : ℕ × Cell). p.1) first) in
        record { place = 0; word = omega arith; here = ap (λ (v : Cell). Some v) cell; before = y; there = refl; differs = ap (λ (v : Cell). same_cell v y) (sym cell) ∙ e }
    by false e (inr rest) later = later rest

pub changes_from_in : (start : ℕ) (cells was : List Cell) (k : ℕ) (c d : Cell) → slice_get cells k ≡ Some c
    → slice_get was k ≡ Some d → same_cell c d ≡ false → IsIn (start + 8 * k, c) (changes_from start cells was)
changes_from_in start [] was k c d here there differs = cc
changes_from_in start (x ∷ cells) [] k c d here there differs = cc
changes_from_in start (x ∷ cells) (y ∷ was) zero c d here there differs =
    let cell : x ≡ c = cc in
    let other : y ≡ d = cc in
    let e : same_cell x y ≡ false = ap (λ (v : Cell). same_cell v y) cell ∙ ap (same_cell c) other ∙ differs in
    let word : start + 8 * 0 ≡ start = omega arith in
    subst (λ b. IsIn (start + 8 * 0, c) ((if b then [] else (start, x) ∷ []) ++ changes_from (start + 8) cells was)) (sym e)
    (inl (ap (λ n. (n, c)) word ∙ ap (λ (v : Cell). (start, v)) (sym cell)))
changes_from_in start (x ∷ cells) (y ∷ was) (suc k) c d here there differs =
    let rest = changes_from_in (start + 8) cells was k c d here there differs in
    let word : start + 8 + 8 * k ≡ start + 8 * suc k = omega arith in
    in_right (start + 8 * suc k, c) (if same_cell x y then [] else (start, x) ∷ []) (changes_from (start + 8) cells was)
    (subst (λ n. IsIn (n, c) (changes_from (start + 8) cells was)) word rest)

-- they rise
from_low : (start : ℕ) (cells was : List Cell) → AllByRecursion (λ (x : ℕ × Cell). start ≤ x.0) (changes_from start cells was)
from_low start [] was = tt
from_low start (x ∷ cells) [] = tt
from_low start (x ∷ cells) (y ∷ was) =
    by (same_cell x y) (each_map (λ (p : ℕ × Cell). start + 8 ≤ p.0) (λ (p : ℕ × Cell). start ≤ p.0) (λ p h. omega arith) (changes_from (start + 8) cells was) (from_low (start + 8) cells was))
  where
    by : (b : Bool) → AllByRecursion (λ (p : ℕ × Cell). start ≤ p.0) (changes_from (start + 8) cells was)
        → AllByRecursion (λ (p : ℕ × Cell). start ≤ p.0) ((if b then [] else (start, x) ∷ []) ++ changes_from
        (start + 8) cells was)
    by true h = h
    by false h = (omega arith, h)

from_high : (start : ℕ) (cells was : List Cell) → AllByRecursion (λ (x : ℕ × Cell). x.0 < start + 8 * length cells) (changes_from start cells was)
from_high start [] was = tt
from_high start (x ∷ cells) [] = tt
from_high start (x ∷ cells) (y ∷ was) =
    by (same_cell x y)
    (each_map (λ (p : ℕ × Cell). p.0 < start + 8 + 8 * length cells) (λ (p : ℕ × Cell). p.0 < start + 8 * length
    (x ∷ cells)) (λ p h. omega arith) (changes_from (start + 8) cells was) (from_high (start + 8) cells was))
  where
    by : (b : Bool) → AllByRecursion (λ (p : ℕ × Cell). p.0 < start + 8 * length (x ∷ cells)) (changes_from (start + 8) cells was)
        → AllByRecursion (λ (p : ℕ × Cell). p.0 < start + 8 * length (x ∷ cells)) ((if b then [] else (start, x) ∷ []) ++ changes_from (start + 8) cells was)
    by true h = h
    by false h = (omega arith, h)

from_rising : (start : ℕ) (cells was : List Cell) → Rising (changes_from start cells was)
from_rising start [] was = tt
from_rising start (x ∷ cells) [] = tt
from_rising start (x ∷ cells) (y ∷ was) =
    by (same_cell x y) (each_map (λ (p : ℕ × Cell). start + 8 ≤ p.0) (λ (p : ℕ × Cell). start < p.0)
    (λ p h. omega arith) (changes_from (start + 8) cells was) (from_low (start + 8) cells was))
    (from_rising (start + 8) cells was)
  where
    by : (b : Bool) → AllByRecursion (λ (p : ℕ × Cell). start < p.0) (changes_from (start + 8) cells was)
        → Rising (changes_from (start + 8) cells was) → Rising ((if b then [] else (start, x) ∷ []) ++ changes_from
        (start + 8) cells was)
    by true h k = k
    by false h k = (h, k)

-- 3. The cells of a memory that differ.

rising_append : (k : ℕ) (xs ys : List (ℕ × Cell)) → Rising xs → Rising ys → AllByRecursion (λ (x : ℕ × Cell). x.0 < k) xs → AllByRecursion (λ (y : ℕ × Cell). k ≤ y.0) ys → Rising (xs ++ ys)
rising_append k [] ys up rising low high = rising
rising_append k (x ∷ xs) ys up rising low high = (
  each_append (λ (y : ℕ × Cell). x.0 < y.0) xs ys up.0 (each_map (λ (y : ℕ × Cell). k ≤ y.0) (λ (y : ℕ × Cell). x.0 < y.0) (λ y h. let first = low.0 in omega arith) ys high),
  rising_append k xs ys up.1 rising low.1 high,
)

below_rest : (e : ℕ × List Cell) (es : List (ℕ × List Cell)) → T (is_sorted nat_cmp (e ∷ es)) → T (below_all nat_cmp e.0 es)
below_rest e es sorted = grind arith

sorted_rest : (e : ℕ × List Cell) (es : List (ℕ × List Cell)) → T (is_sorted nat_cmp (e ∷ es)) → T (is_sorted nat_cmp es)
sorted_rest e es sorted = grind arith

head_below : (k : ℕ) (x : ℕ × List Cell) (es : List (ℕ × List Cell)) → T (below_all nat_cmp k (x ∷ es)) → (k < x.0) × T (below_all nat_cmp k es)
head_below k x es h = (grind (arith, nat_tests), grind (arith, nat_tests))

all_below : (k : ℕ) (es : List (ℕ × List Cell)) → T (below_all nat_cmp k es) → AllByRecursion (λ (e : ℕ × List Cell). k < e.0) es
all_below k [] h = tt
all_below k (e ∷ es) h = let first = head_below k e es h in (first.0, all_below k es first.1)

module _ (image : Memory) where
  abbrev page_changes : ℕ × List Cell → List (ℕ × Cell)
  page_changes page = changes_from (page.0 * 4096) page.1 (cells_or_zero (page_at image page.0))

  pages_low : (k : ℕ) (es : List (ℕ × List Cell)) → AllByRecursion (λ (e : ℕ × List Cell). k < e.0) es → AllByRecursion (λ (x : ℕ × Cell). (k + 1) * 4096 ≤ x.0) (flat_map page_changes es)
  pages_low k [] h = tt
  pages_low k (e ∷ es) h =
      each_append (λ (x : ℕ × Cell). (k + 1) * 4096 ≤ x.0) (page_changes e) (flat_map page_changes es)
      (each_map (λ (x : ℕ × Cell). e.0 * 4096 ≤ x.0) (λ (x : ℕ × Cell). (k + 1) * 4096 ≤ x.0)
      (λ x low. let above = h.0 in omega arith) (page_changes e)
      (from_low (e.0 * 4096) e.1 (cells_or_zero (page_at image e.0))))
      (pages_low k es h.1)

  pages_rising : (es : List (ℕ × List Cell)) → T (is_sorted nat_cmp es) → AllByRecursion IsPage es → Rising (flat_map page_changes es)
  pages_rising [] sorted whole = tt
  pages_rising (e ∷ es) sorted whole =
      let long : length e.1 ≡ 512 = whole.0.cells in
      rising_append ((e.0 + 1) * 4096) (page_changes e) (flat_map page_changes es) (from_rising (e.0 * 4096) e.1 (cells_or_zero (page_at image e.0)))
      (pages_rising es (sorted_rest e es sorted) whole.1)
      (each_map (λ (x : ℕ × Cell). x.0 < e.0 * 4096 + 8 * length e.1) (λ (x : ℕ × Cell). x.0 < (e.0 + 1) * 4096)
      (λ x high. omega arith) (page_changes e) (from_high (e.0 * 4096) e.1 (cells_or_zero (page_at image e.0))))
      (pages_low e.0 es (all_below e.0 es (below_rest e es sorted)))

-- the cells that differ rise by their words
pub changes_rising : (m image : Memory) → IsPaged m → Rising (changes m image)
changes_rising m image h = pages_rising image m.pages (subst T (sym h.pages.rising) tt) h.pages.whole

-- pages and look-ups

page_found : (es : List (ℕ × List Cell)) (q : ℕ) (cells : List Cell) → find nat_cmp q es ≡ Some cells → IsIn (q, cells) es
page_found [] q cells is = cc
page_found (e ∷ es) q cells is = by (nat_eq q e.0) refl (sym (ap (λ b. cond b (Some e.1) (find nat_cmp q es)) (unsigned_tied q e.0)) ∙ is) (λ k. page_found es q cells k)
  where
    by : (b : Bool) → nat_eq q e.0 ≡ b → cond b (Some e.1) (find nat_cmp q es) ≡ Some cells → (find nat_cmp q es ≡ Some cells → IsIn (q, cells) es) → IsIn (q, cells) (e ∷ es)
    by true y found later =
        let number : q ≡ e.0 = Rattle.std.proofs.Common.eqb-true q e.0 y in
        let same : cells ≡ e.1 = cc in
        inl (ap (λ n. (n, cells)) number ∙ ap (λ (l : List Cell). (e.0, l)) same)
    by false n found later = inr (later found)

pub found_page : (es : List (ℕ × List Cell)) → T (is_sorted nat_cmp es) → (q : ℕ) (cells : List Cell) → IsIn (q, cells) es → find nat_cmp q es ≡ Some cells
found_page [] sorted q cells h = absurd h
found_page (e ∷ es) sorted q cells (inl first) =
    let number : q ≡ e.0 = ap (λ (p : ℕ × List Cell). p.0) first in
    let same : cells ≡ e.1 = ap (λ (p : ℕ × List Cell). p.1) first in
    ap (λ b. cond b (Some e.1) (find nat_cmp q es)) (unsigned_tied q e.0 ∙ eq-eqb q e.0 number) ∙ ap (λ (l : List Cell). Some l) (sym same)
found_page (e ∷ es) sorted q cells (inr later) =
    let low : e.0 < q = each_of_in (λ (x : ℕ × List Cell). e.0 < x.0) (q, cells) es (all_below e.0 es (below_rest e es sorted)) later in
    let ne : q ≢ e.0 = omega arith in
    ap (λ b. cond b (Some e.1) (find nat_cmp q es)) (unsigned_tied q e.0 ∙ ne_eqb q e.0 ne) ∙ found_page es (sorted_rest e es sorted) q cells later

-- 4. The same, by words.

-- the image's cell, or integer 0, full, where it has none
abbrev pub cell_or_zero : Option Cell → Cell
cell_or_zero None = zero_cell
cell_or_zero (Some c) = c

-- the memory's cell at a word is not the image's
pub record DiffersAt (m image : Memory) (w : ℕ) (c : Cell) : Type 0 where
  pub here : cell_at m w ≡ Some c
  pub differs : same_cell c (cell_or_zero (cell_at image w)) ≡ false

pub get_short : {A : Type 0} (xs : List A) (k : ℕ) (x : A) → slice_get xs k ≡ Some x → k < length xs
get_short [] k x e = cc
get_short (y ∷ xs) zero x e = omega arith
get_short (y ∷ xs) (suc k) x e = let rest = get_short xs k x e in omega arith

pub cell_of : (m : Memory) (q k : ℕ) → k < 512 → cell_at m (q * 4096 + 8 * k) ≡ cell_in (page_at m q) k
cell_of m q k lt =
    let a : (q * 4096 + 8 * k) % 8 ≡ 0 = omega arith in
    let p : page_of (q * 4096 + 8 * k) ≡ q = omega arith in
    let r : place_of (q * 4096 + 8 * k) ≡ k = omega arith in
    cell_at-aligned m (q * 4096 + 8 * k) a ∙ ap (λ x. cell_in (page_at m x) (place_of (q * 4096 + 8 * k))) p ∙ ap (cell_in (page_at m q)) r

was_get : (o : Option (List Cell)) (k : ℕ) (d : Cell) → k < 512 → slice_get (cells_or_zero o) k ≡ Some d → d ≡ cell_or_zero (cell_in o k)
was_get None k d lt e = let zero_there = zeros_get 512 k lt in cc
was_get (Some cells) k d lt e = sym (ap cell_or_zero e)

get_was : (o : Option (List Cell)) → ((cells : List Cell) → o ≡ Some cells → length cells ≡ 512) → (k : ℕ) → k < 512 → slice_get (cells_or_zero o) k ≡ Some (cell_or_zero (cell_in o k))
get_was None whole k lt = zeros_get 512 k lt
get_was (Some cells) whole k lt = by (slice_get cells k) refl
  where
    by : (o : Option Cell) → slice_get cells k ≡ o → slice_get cells k ≡ Some (cell_or_zero (slice_get cells k))
    by None e = absurd (no_get cells k (let long = whole cells refl in omega arith) e)
      where
        no_get : (xs : List Cell) (n : ℕ) → n < length xs → slice_get xs n ≡ None → ⊥
        no_get [] n lt e = omega arith
        no_get (x ∷ xs) zero lt e = cc
        no_get (x ∷ xs) (suc n) lt e = no_get xs n (omega arith) e
    by (Some c) e = e ∙ ap (λ (v : Cell). Some v) (sym (ap cell_or_zero e))

module _ (m image : Memory) (h : IsPaged m) (k : IsPaged image) where
  pub in_changes : (w : ℕ) (c : Cell) → IsIn (w, c) (changes m image) → DiffersAt m image w c
  in_changes w c is =
      let from = flat_from (page_changes image) (w, c) m.pages is in
      let one = in_changes_from (from.from.0 * 4096) from.from.1 (cells_or_zero (page_at image from.from.0)) w c from.inside in
      let found : page_at m from.from.0 ≡ Some from.from.1 = found_page m.pages (subst T (sym h.pages.rising) tt) from.from.0 from.from.1 from.among in
      let few : one.place < 512 = let long = (page_whole m h from.from.0 from.from.1 found).cells in let short = get_short from.from.1 one.place c one.here in omega arith in
      record {
        here = ap (cell_at m) one.word ∙ cell_of m from.from.0 one.place few ∙ ap (λ o. cell_in o one.place) found ∙ one.here;
        differs =
            ap (same_cell c) (ap cell_or_zero (ap (cell_at image) one.word ∙ cell_of image from.from.0 one.place few) ∙ sym (was_get (page_at image from.from.0) one.place one.before few one.there))
            ∙ one.differs;
      }

  pub changes_in : (w : ℕ) (c : Cell) → DiffersAt m image w c → IsIn (w, c) (changes m image)
  changes_in w c d = by (page_at m (page_of w)) refl
    where
      word : w ≡ page_of w * 4096 + 8 * place_of w
      word = let a = aligned m w c d.here in omega arith

      few : place_of w < 512
      few = omega arith

      by : (o : Option (List Cell)) → page_at m (page_of w) ≡ o → IsIn (w, c) (changes m image)
      by None found =
          let none : cell_at m w ≡ None = cell_at-aligned m w (aligned m w c d.here) ∙ ap (λ o. cell_in o (place_of w)) found in
          cc (none, d.here)
      by (Some cells) found =
          let here : slice_get cells (place_of w) ≡ Some c = sym (cell_at-aligned m w (aligned m w c d.here) ∙ ap (λ o. cell_in o (place_of w)) found) ∙ d.here in
          let there = get_was (page_at image (page_of w)) (λ l is. (page_whole image k (page_of w) l is).cells) (place_of w) few in
          let same : cell_at image w ≡ cell_in (page_at image (page_of w)) (place_of w) = cell_at-aligned image w (aligned m w c d.here) in
          in_flat (page_changes image) (w, c) (page_of w, cells) m.pages (page_found m.pages (page_of w) cells found)
          (subst (λ n. IsIn (n, c) (page_changes image (page_of w, cells))) (sym word)
          (changes_from_in (page_of w * 4096) cells (cells_or_zero (page_at image (page_of w))) (place_of w) c (cell_or_zero (cell_in (page_at image (page_of w)) (place_of w))) here there
          (ap (λ o. same_cell c (cell_or_zero o)) (sym same) ∙ d.differs)))
