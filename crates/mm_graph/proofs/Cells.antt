-- What was found is what the cells hold, in the order of their words.
use Rattle.std.proofs.Common.{◌≡◌, ℕ, zero, suc, ◌+◌, ◌*◌, ◌%◌, ◌^◌, ◌<◌, ◌≤◌, inl, inr, Bool, true, false}
use Rattle.std.proofs.Common.{if◌then◌else◌, List, [], ◌∷◌, ◌++◌, length, get_or, slice_get, Option, Some, None, refl}
use Rattle.std.proofs.Common.{sym, ap, ◌∙◌, subst, arith, eqb-true}
use Rattle.std.proofs.lemmas.List.Elements.{Contains-append_left, Contains-append_right, Contains-append_cases}
use Rattle.std.proofs.lemmas.List.Elements.{All-from_recursion, All-contains}
use Rattle.std.specs.{List.{Contains, flat_map}, Ordering.{nat_cmp, eq_by_cmp}, Cmp.unsigned_tied, FinMap.find}
use Rattle.mm_word.specs.declared.word.Cell.{Cell}
use Rattle.mm_model.specs.Memory.{Memory, cell_at, cell_in, page_at, page_of, place_of, IsPage, IsPaged}
use Rattle.mm_model.proofs.Memories.{cell_at-aligned, cell_at-unaligned, word_or_none}
use Rattle.mm_image.proofs.SortedEntries.{rises, find-at}
use Rattle.mm_graph.specs.{declared.{canonical_ptr.CanonicalPtr.CanonicalPtr, found.Found.Found}, Key.word_key}
use Rattle.mm_graph.specs.{Found.{found_at, cell_keys, page_keys}, Nodes.{IsAscending, found_word}}
use Rattle.mm_graph.proofs.KeyLists.{contains_here, contains_rest, contains_cases}

-- one page's cells

at_found : (w : ℕ) (o : Option CanonicalPtr) (key : CanonicalPtr) → o ≡ Some key → Contains (found_at w o) (record { word = w; key = key })
at_found w o key e = subst (λ v. Contains (found_at w v) (record { word = w; key = key })) (sym e) (contains_here _ [])

pub in_cells : (w : ℕ) (cells : List Cell) (k : ℕ) (c : Cell) (key : CanonicalPtr) → slice_get cells k ≡ Some c
    → word_key c.word ≡ Some key → Contains (cell_keys w cells) (record { word = w + 8 * k; key = key })
in_cells w [] k c key at is = cc
in_cells w (x ∷ xs) zero c key at is =
    let same : x ≡ c = cc in
    let word : w ≡ w + 8 * 0 = omega arith in
    Contains-append_left (found_at w (word_key x.word)) (cell_keys (w + 8) xs) _
    (subst (λ v. Contains (found_at w (word_key x.word)) (record { word = v; key = key })) word
    (at_found w (word_key x.word) key (ap (λ (v : Cell). word_key v.word) same ∙ is)))
in_cells w (x ∷ xs) (suc k) c key at is =
    let word : w + 8 + 8 * k ≡ w + 8 * suc k = omega arith in
    Contains-append_right (found_at w (word_key x.word)) (cell_keys (w + 8) xs) _
    (subst (λ v. Contains (cell_keys (w + 8) xs) (record { word = v; key = key })) word
    (in_cells (w + 8) xs k c key at is))

-- the cell of what was found
pub record CellAt (w : ℕ) (cells : List Cell) (f : Found) : Type 0 where
  pub place : ℕ
  pub cell : Cell
  pub at : slice_get cells place ≡ Some cell
  pub holds : word_key cell.word ≡ Some f.key
  pub word : f.word ≡ w + 8 * place

from_found : (w : ℕ) (o : Option CanonicalPtr) (f : Found) → Contains (found_at w o) f → (o ≡ Some f.key) × (f.word ≡ w)
from_found w None f m = absurd (let lt = m.1 in omega arith)
from_found w (Some key) f m = elim (contains_cases (record { word = w; key = key }) f [] m) [
  | inl e ↦ (ap (λ (v : Found). Some v.key) e, ap (λ (v : Found). v.word) (sym e))
  | inr no_one ↦ absurd (let lt = no_one.1 in omega arith)
]

pub from_cells : (w : ℕ) (cells : List Cell) (f : Found) → Contains (cell_keys w cells) f → CellAt w cells f
from_cells w [] f m = absurd (let lt = m.1 in omega arith)
from_cells w (x ∷ xs) f m = elim (Contains-append_cases (found_at w (word_key x.word)) (cell_keys (w + 8) xs) f m) [
  | inl here ↦ let e = from_found w (word_key x.word) f here in record { place = 0; cell = x; at = refl; holds = e.0; word = (let is = e.1 in omega arith) }
  | inr later ↦ let r = from_cells (w + 8) xs f later in record { place = suc r.place; cell = r.cell; at = r.at; holds = r.holds; word = (let is = r.word in omega arith) }
]

-- lists of lists

pub in_flat_map : {A B : Type 0} (f : A → List B) (xs : List A) (x : A) (y : B) → Contains xs x → Contains (f x) y → Contains (flat_map f xs) y
in_flat_map f [] x y m n = absurd (let lt = m.1 in omega arith)
in_flat_map f (z ∷ zs) x y m n = elim (contains_cases z x zs m) [
  | inl e ↦ Contains-append_left (f z) (flat_map f zs) y (subst (λ v. Contains (f v) y) (sym e) n)
  | inr old ↦ Contains-append_right (f z) (flat_map f zs) y (in_flat_map f zs x y old n)
]

pub record FromList {A B : Type 0} (f : A → List B) (xs : List A) (y : B) : Type 0 where
  pub from : A
  pub is_in : Contains xs from
  pub part : Contains (f from) y

pub from_flat_map : {A B : Type 0} (f : A → List B) (xs : List A) (y : B) → Contains (flat_map f xs) y → FromList f xs y
from_flat_map f [] y m = absurd (let lt = m.1 in omega arith)
from_flat_map f (z ∷ zs) y m = elim (Contains-append_cases (f z) (flat_map f zs) y m) [
  | inl here ↦ record { from = z; is_in = contains_here z zs; part = here }
  | inr later ↦ let r = from_flat_map f zs y later in record { from = r.from; is_in = contains_rest z r.from zs r.is_in; part = r.part }
]

-- a page that is found is there

pub found_page : (pages : List (ℕ × List Cell)) (q : ℕ) (cells : List Cell) → find nat_cmp q pages ≡ Some cells → Contains pages (q, cells)
found_page [] q cells h = cc
found_page (p ∷ ps) q cells h = at (eq_by_cmp nat_cmp q p.0) refl h (found_page ps q cells)
  where
    at : (b : Bool) → eq_by_cmp nat_cmp q p.0 ≡ b → (if b then Some p.1 else find nat_cmp q ps) ≡ Some cells → (find nat_cmp q ps ≡ Some cells → Contains ps (q, cells)) → Contains (p ∷ ps) (q, cells)
    at true e f later =
        let same : q ≡ p.0 = eqb-true q p.0 (sym (unsigned_tied q p.0) ∙ e) in
        let is : p.1 ≡ cells = cc in
        let pair : p ≡ (q, cells) = λ i. (sym same i, is i) in
        subst (Contains (p ∷ ps)) pair (contains_here p ps)
    at false e f later = contains_rest p (q, cells) ps (later f)

-- cells of memory

module _ (m : Memory) (paged : IsPaged m) where
  page_whole : (p : ℕ × List Cell) → Contains m.pages p → IsPage p
  page_whole p h = All-contains IsPage m.pages p (All-from_recursion IsPage m.pages paged.pages.whole) h

  pub there : (w : ℕ) (c : Cell) (key : CanonicalPtr) → cell_at m w ≡ Some c → word_key c.word ≡ Some key → Contains (page_keys m.pages) (record { word = w; key = key })
  there w c key at is = elim (word_or_none w) [
    | inr no_word ↦ let none = cell_at-unaligned m w no_word in cc
    | inl aligned ↦ go aligned (page_at m (page_of w)) refl (sym (cell_at-aligned m w aligned) ∙ at)
  ]
    where
      go : w % 8 ≡ 0 → (o : Option (List Cell)) → page_at m (page_of w) ≡ o → cell_in o (place_of w) ≡ Some c → Contains (page_keys m.pages) (record { word = w; key = key })
      go aligned None e f = cc
      go aligned (Some cells) e f =
          let one = in_cells (page_of w * 4096) cells (place_of w) c key f is in
          let word : page_of w * 4096 + 8 * place_of w ≡ w = omega arith in
          in_flat_map (λ (p : ℕ × List Cell). cell_keys (p.0 * 4096) p.1) m.pages (page_of w, cells) _ (found_page m.pages (page_of w) cells e)
          (subst (λ v. Contains (cell_keys (page_of w * 4096) cells) (record { word = v; key = key })) word one)

  -- the cell that holds what was found
  pub record Held (f : Found) : Type 0 where
    pub cell : Cell
    pub aligned : f.word % 8 ≡ 0
    pub small : f.word < 2 ^ 54
    pub at : cell_at m f.word ≡ Some cell
    pub holds : word_key cell.word ≡ Some f.key

  get_small : (cells : List Cell) (k : ℕ) (c : Cell) → slice_get cells k ≡ Some c → k < length cells
  get_small [] k c h = cc
  get_small (x ∷ xs) zero c h = omega arith
  get_small (x ∷ xs) (suc k) c h = let lt = get_small xs k c h in omega arith

  pub held : (f : Found) → Contains (page_keys m.pages) f → Held f
  held f h =
      let p = from_flat_map (λ (p : ℕ × List Cell). cell_keys (p.0 * 4096) p.1) m.pages f h in
      let r = from_cells (p.from.0 * 4096) p.from.1 f p.part in
      let whole = page_whole p.from p.is_in in
      let lt = get_small p.from.1 r.place r.cell r.at in
      let number = whole.number in
      let many = whole.cells in
      let word = r.word in
      let small : r.place < 512 = omega arith in
      let aligned : f.word % 8 ≡ 0 = omega arith in
      let page : page_of f.word ≡ p.from.0 = omega arith in
      let place : place_of f.word ≡ r.place = omega arith in
      let q = p.is_in in
      let is : (get_or m.pages q.0 p.from).0 ≡ p.from.0 = ap (λ (v : ℕ × List Cell). v.0) q.2 in
      let found : find nat_cmp p.from.0 m.pages ≡ Some p.from.1 = find-at m.pages q.0 p.from.0 p.from paged.pages.rising q.1 is ∙ ap (λ (v : ℕ × List Cell). Some v.1) q.2 in
      record {
        cell = r.cell;
        aligned = aligned;
        small = omega arith;
        at = cell_at-aligned m f.word aligned ∙ ap (λ v. cell_in (page_at m v) (place_of f.word)) page ∙ ap (λ o. cell_in o (place_of f.word)) found ∙ ap (slice_get p.from.1) place ∙ r.at;
        holds = r.holds;
      }

-- ascending words

-- they rise from a word on
abbrev pub Rises : ℕ → List Found → Type 0
Rises lo [] = Unit {0}
Rises lo (x ∷ xs) = (lo ≤ x.word) × Rises (x.word + 1) xs

rises_higher : (lo hi : ℕ) (xs : List Found) → lo ≤ hi → Rises hi xs → Rises lo xs
rises_higher lo hi [] le h = tt
rises_higher lo hi (x ∷ xs) le h = (let a = h.0 in omega arith, h.1)

rises_cells : (w lo : ℕ) (cells : List Cell) (rest : List Found) → lo ≤ w → Rises (w + 8 * length cells) rest → Rises lo (cell_keys w cells ++ rest)
rises_cells w lo [] rest le h = rises_higher lo (w + 8 * 0) rest (omega arith) h
rises_cells w lo (x ∷ xs) rest le h =
    at (λ l small. rises_cells (w + 8) l xs rest small (subst (λ v. Rises v rest) (let e : w + 8 * length (x ∷ xs) ≡ w + 8 + 8 * length xs = omega arith in e) h)) (word_key x.word)
  where
    at : ((l : ℕ) → l ≤ w + 8 → Rises l (cell_keys (w + 8) xs ++ rest)) → (o : Option CanonicalPtr) → Rises lo (found_at w o ++ cell_keys (w + 8) xs ++ rest)
    at tail None = tail lo (omega arith)
    at tail (Some key) = (le, tail (w + 1) (omega arith))

rises_pages : (pages : List (ℕ × List Cell)) (lo : ℕ) → ((k : ℕ) (d : ℕ × List Cell) → k < length pages → lo ≤ (get_or pages k d).0)
    → ((i j : ℕ) (d : ℕ × List Cell) → i < j → j < length pages → (get_or pages i d).0 < (get_or pages j d).0)
    → ((p : ℕ × List Cell) → Contains pages p → length p.1 ≡ 512) → Rises (lo * 4096) (page_keys pages)
rises_pages [] lo low rise whole = tt
rises_pages (p ∷ ps) lo low rise whole =
    let first = low 0 p (omega arith) in
    let many = whole p (contains_here p ps) in
    let later = rises_pages ps (p.0 + 1) (λ k d lt. let up = rise 0 (suc k) d (omega arith) (omega arith) in omega
    arith) (λ i j d lt small. rise (suc i) (suc j) d (omega arith) (omega arith))
    (λ q m. whole q (contains_rest p q ps m)) in
    rises_cells (p.0 * 4096) (lo * 4096) p.1 (page_keys ps) (omega arith) (subst (λ v. Rises v (page_keys ps)) (let e : (p.0 + 1) * 4096 ≡ p.0 * 4096 + 8 * length p.1 = omega arith in e) later)

rises_at : (lo : ℕ) (xs : List Found) (k : ℕ) → Rises lo xs → k < length xs → lo ≤ found_word xs k
rises_at lo [] k h lt = absurd (omega arith)
rises_at lo (x ∷ xs) zero h lt = h.0
rises_at lo (x ∷ xs) (suc k) h lt = let up = rises_at (x.word + 1) xs k h.1 (omega arith) in let first = h.0 in omega arith

rises_both : (lo : ℕ) (xs : List Found) (i j : ℕ) → Rises lo xs → i < j → j < length xs → found_word xs i < found_word xs j
rises_both lo [] i j h lt small = absurd (omega arith)
rises_both lo (x ∷ xs) i zero h lt small = absurd (omega arith)
rises_both lo (x ∷ xs) zero (suc j) h lt small = let up = rises_at (x.word + 1) xs j h.1 (omega arith) in omega arith
rises_both lo (x ∷ xs) (suc i) (suc j) h lt small = rises_both (x.word + 1) xs i j h.1 (omega arith) (omega arith)

pub ascending : (m : Memory) → IsPaged m → IsAscending (page_keys m.pages)
ascending m paged = record {
  rise = λ i j lt small. rises_both 0 (page_keys m.pages) i j
      (rises_pages m.pages 0 (λ k d l. omega arith) (λ a b d l s. rises m.pages a b d paged.pages.rising l s) (λ p h. (page_whole m paged p h).cells)) lt small;
}
