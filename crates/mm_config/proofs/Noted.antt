-- The names of a memory with another cell, and with another page.
use Rattle.std.proofs.Common.{◌≡◌, ◌≢◌, ◌⊎◌, inl, inr, ℕ, zero, suc, ◌+◌, ◌%◌, ◌<◌, ◌≤◌, Bool, true, false, nat_eq, if◌then◌else◌, List, [], ◌∷◌, length, slice_get, slice_index_or, slice_set, Option, Some, None}
use Rattle.std.proofs.Common.{refl, sym, ap, ◌∙◌, subst, arith, eqb-true, eq-eqb, take, insert, remove, T}
use Rattle.std.specs.{Ordering.nat_cmp, FinMap.is_sorted, List.AllZip, Prelude.{IsTrue, replicate}}
use Rattle.std.proofs.Math.Seq.{take-length}
use Rattle.mm_word.specs.declared.word.Cell.{Cell}
use Rattle.mm_model.specs.Memory.{Memory, page_of, place_of, page_at, cell_in, cell_at, put_cell, is_mapped, map_page, unmap_page, zero_cell, zero_page}
use Rattle.mm_model.proofs.Memories.{cell_at-aligned, put_cell-unmapped, page_at-put_same, page_at-put_other, page_at-map_same, page_at-map_other, page_at-unmap_same, page_at-unmap_other}
use Rattle.mm_pairs.specs.{Named.{HasGrown, IsNameOf}, Trees.{pair_of, leaves, IsTree, HasLeaves}}
use Rattle.mm_pairs.proofs.Names.{named_stays, tree_stays, grown_twice, length_leaves}
use Rattle.mm_config.specs.declared.{store.Store.Store, names.Names.Names}
use Rattle.mm_config.specs.{Naming.{AreCells, IsPageName, IsOrNone, page_name, IsLow, IsTreeOfPages, AreMemoryNames}, Noting.{HasMoreCells, HasOtherPage, IsKeptStill, PutsPage, mapped_pages}}
use Rattle.mm_config.proofs.{PageCells.{page_stays, cells_set, cells_stay, more_twice, more_pairs}, PageLists.{page_added, comes_in, goes_out, ComesIn, GoesOut, first_other}, NamedOnce.same_numbers, PageTrees.{leaf_stays, none_tree, none_at}}
use Rattle.mm_config.specs.Places.{page_place}
use Rattle.std.proofs.lemmas.{Bool.cases_eq, List.{length-map, length-replicate}, Option.slice_get_within}

-- 1. What stays.

pub or_none : (old new : Store) → IsKeptStill old new → (o : Option (List Cell)) (name : ℕ) → IsOrNone (IsPageName old) o name → IsOrNone (IsPageName new) o name
or_none old new still None name h = h
or_none old new still (Some cells) name h = page_stays old new still cells name h

-- a memory that has the same pages has the same names
pub alike : (k : Store) (m now : Memory) (n : Names) → ((q : ℕ) → page_at now q ≡ page_at m q) → AreMemoryNames k m n → AreMemoryNames k now n
alike k m now n same h = record {
  tree = h.tree;
  pages = λ q. subst (λ (o : Option (List Cell)). IsOrNone (IsPageName k) o (page_name k n q)) (sym (same q)) (h.pages q);
}

pub twice : (a b c : Store) → IsKeptStill a b → IsKeptStill b c → IsKeptStill a c
twice a b c h g = record {
  pairs = grown_twice a.pairs b.pairs c.pairs h.pairs g.pairs;
  outputs = grown_twice a.outputs b.outputs c.outputs h.outputs g.outputs;
  lists = grown_twice a.lists b.lists c.lists h.lists g.lists;
  cells = grown_twice a.cells b.cells c.cells h.cells g.cells;
  pages = grown_twice a.pages b.pages c.pages h.pages g.pages;
}

-- with more trees and cells
module _ (k new : Store) (h : HasMoreCells k new) where
  pub still_more : IsKeptStill k new
  still_more = subst (IsKeptStill k) (sym h.others) (record { pairs = h.pairs; outputs = take-length k.outputs; lists = take-length k.lists; cells = h.cells; pages = take-length k.pages })

  low_stays : (height tree : ℕ) → IsTree k.pairs height tree → IsLow k.pairs height tree → IsLow new.pairs height tree
  low_stays zero tree inner low = low
  low_stays (suc height) tree inner low = λ none. low (ap (λ (p : ℕ × ℕ). p.1) (sym (named_stays (0, 0) k.pairs new.pairs h.pairs tree inner.0)) ∙ none)

  pub tree_more : (n : Names) → IsTreeOfPages k n → IsTreeOfPages new n
  tree_more n t = subst (λ (s : Store). IsTreeOfPages s n) (sym h.others) (record {
    inner = tree_stays k.pairs new.pairs h.pairs n.height n.pages t.inner;
    few = t.few;
    low = low_stays n.height n.pages t.inner t.low;
    inside = λ at high. leaf_stays k.pairs new.pairs h.pairs n.height n.pages t.inner at ∙ t.inside at high;
  })

  pub names_more : (n : Names) (q : ℕ) → IsTreeOfPages k n → page_name new n q ≡ page_name k n q
  names_more n q t = ap (λ (s : Store). page_name s n q) h.others ∙ leaf_stays k.pairs new.pairs h.pairs n.height n.pages t.inner (page_place k.pages q)

pub memory_more : (k new : Store) → HasMoreCells k new → (m : Memory) (n : Names) → AreMemoryNames k m n → AreMemoryNames new m n
memory_more k new more m n h = record {
  tree = tree_more k new more n h.tree;
  pages = λ q. subst (IsOrNone (IsPageName new) (page_at m q)) (sym (names_more k new more n q h.tree)) (or_none k new (still_more k new more) (page_at m q) (page_name k n q) (h.pages q));
}

-- 2. Another page.

-- a page of a memory has another name, and the others stay
pub put_noted : (k k1 k4 : Store) → HasMoreCells k k1 → (m now : Memory) (n0 n4 : Names) (number name : ℕ) → AreMemoryNames k m n0 → PutsPage k1 n0 number name k4 n4
    → ((q : ℕ) → q ≢ number → page_at now q ≡ page_at m q) → IsOrNone (IsPageName k4) (page_at now number) name → AreMemoryNames k4 now n4
put_noted k k1 k4 more m now n0 n4 number name h put other page = record {
  tree = put.tree;
  pages = λ q. by q (nat_eq q number) refl;
}
  where
    still : IsKeptStill k k4
    still = twice k k1 k4 (still_more k k1 more) put.still

    at : (q : ℕ) (b : Bool) → nat_eq q number ≡ b → page_name k4 n4 q ≡ (if b then name else page_name k1 n0 q)
    at q b e = put.names q ∙ ap (λ t. if t then name else page_name k1 n0 q) e

    by : (q : ℕ) (b : Bool) → nat_eq q number ≡ b → IsOrNone (IsPageName k4) (page_at now q) (page_name k4 n4 q)
    by q true e =
        subst (λ l. IsOrNone (IsPageName k4) (page_at now q) l) (sym (at q true e))
        (subst (λ r. IsOrNone (IsPageName k4) (page_at now r) name) (sym (eqb-true q number e)) page)
    by q false e =
        let ne : q ≢ number = λ same. let own = eq-eqb q number same in cc in
        subst (λ l. IsOrNone (IsPageName k4) (page_at now q) l) (sym (at q false e ∙ names_more k k1 more n0 q h.tree))
        (subst (λ (o : Option (List Cell)). IsOrNone (IsPageName k4) o (page_name k n0 q)) (sym (other q ne)) (or_none k k4 still (page_at m q) (page_name k n0 q) (h.pages q)))

-- 3. Another cell.

set_tells : (cells : List Cell) (place : ℕ) (c d : Cell) → slice_get (slice_set cells place c) place ≡ Some d → d ≡ c
set_tells [] place c d e = cc
set_tells (x ∷ cells) zero c d e = cc
set_tells (x ∷ cells) (suc place) c d e = set_tells cells place c d e

set_past : (cells : List Cell) (place : ℕ) (c : Cell) → slice_get (slice_set cells place c) place ≡ None → slice_set cells place c ≡ cells
set_past [] place c e = refl
set_past (x ∷ cells) zero c e = cc
set_past (x ∷ cells) (suc place) c e = ap (λ l. x ∷ l) (set_past cells place c e)

module _ (m now : Memory) (word : ℕ) (c : Cell) (is : now ≡ put_cell m word c) (aligned : word % 8 ≡ 0) where
  others : (q : ℕ) → q ≢ page_of word → page_at now q ≡ page_at m q
  others q ne = ap (λ (v : Memory). page_at v q) is ∙ page_at-put_other m word c q ne

  here : (cells : List Cell) → page_at m (page_of word) ≡ Some cells → page_at now (page_of word) ≡ Some (slice_set cells (place_of word) c)
  here cells e = ap (λ (v : Memory). page_at v (page_of word)) is ∙ page_at-put_same m word c cells e

  -- without a cell there, nothing has changed
  pub not_written : None ≡ cell_at now word → (q : ℕ) → page_at now q ≡ page_at m q
  not_written none q = by (page_at m (page_of word)) refl
    where
      none_in : cell_in (page_at now (page_of word)) (place_of word) ≡ None
      none_in = sym (none ∙ cell_at-aligned now word aligned)

      by : (o : Option (List Cell)) → page_at m (page_of word) ≡ o → page_at now q ≡ page_at m q
      by None e = ap (λ (v : Memory). page_at v q) (is ∙ put_cell-unmapped m word c e)
      by (Some cells) e = elim (cases_eq q (page_of word)) [
        | inl same ↦
            let set = here cells e in
            let none = sym (ap (λ (o : Option (List Cell)). cell_in o (place_of word)) set) ∙ none_in in
            ap (page_at now) same ∙ set ∙ ap Some (set_past cells (place_of word) c none) ∙ sym e ∙ ap (page_at m) (sym same)
        | inr ne ↦ others q ne
      ]

  -- with one, its page was mapped, and has it now
  pub written : (cell : Cell) → Some cell ≡ cell_at now word
      → (cells : List Cell) × (page_at m (page_of word) ≡ Some cells) × (page_at now (page_of word) ≡ Some (slice_set cells (place_of word) cell))
  written cell some = by (page_at m (page_of word)) refl
    where
      some_in : cell_in (page_at now (page_of word)) (place_of word) ≡ Some cell
      some_in = sym (some ∙ cell_at-aligned now word aligned)

      by : (o : Option (List Cell)) → page_at m (page_of word) ≡ o
          → (cells : List Cell) × (page_at m (page_of word) ≡ Some cells) × (page_at now (page_of word) ≡ Some (slice_set cells (place_of word) cell))
      by None e =
          let same = ap (λ (v : Memory). page_at v (page_of word)) (is ∙ put_cell-unmapped m word c e) ∙ e in
          let none = sym (ap (λ (o : Option (List Cell)). cell_in o (place_of word)) same) ∙ some_in in cc
      by (Some cells) e =
          let set = here cells e in
          let got = sym (ap (λ (o : Option (List Cell)). cell_in o (place_of word)) set) ∙ some_in in
          (cells, e, set ∙ ap (λ d. Some (slice_set cells (place_of word) d)) (sym (set_tells cells (place_of word) c cell got)))

pub only_others : (m now : Memory) (word : ℕ) (c : Cell) → now ≡ put_cell m word c → (q : ℕ) → q ≢ page_of word → page_at now q ≡ page_at m q
only_others m now word c is q ne = ap (λ (v : Memory). page_at v q) is ∙ page_at-put_other m word c q ne

-- the page of a word with another cell
pub page_set : (k k4 : Store) (q1 q2 : List (ℕ × ℕ)) (kept : List Cell) (first : HasGrown k.pairs q1) (second : HasGrown q1 q2) (more : HasGrown k.cells kept)
    → IsKeptStill (record k { pairs = q2; cells = kept }) k4
    → (cells : List Cell) (page place name tree now : ℕ) (cell : Cell) (h : IsPageName k cells page) → IsNameOf zero_cell kept name cell
    → HasLeaves q1 9 tree (slice_set (leaves k.pairs 9 h.tree) place name) → IsNameOf (0, 0) q2 now (1, tree) → IsPageName k4 (slice_set cells place cell) now
page_set k k4 q1 q2 kept first second more still cells page place name tree now cell h is made made_page =
    let one = cells_set k cells kept q1 h.tree place name tree cell h.named more is made in
    let two = cells_stay (record k { pairs = q1; cells = kept }) (record k { pairs = q2; cells = kept }) 9 tree (slice_set cells place cell) second (take-length kept) one in
    page_stays (record k { pairs = q2; cells = kept }) k4 still (slice_set cells place cell) now (record { tree = tree; is = made_page; named = two })

-- one page more of a list
pub page_noted : (k k1 k4 : Store) (pairs : List (ℕ × ℕ)) (n0 n4 : Names) (pages : List (ℕ × List Cell)) (at : ℕ) (page : ℕ × List Cell) (tree name : ℕ)
    → T (is_sorted nat_cmp pages) → slice_get pages at ≡ Some page → AreMemoryNames k (record { pages = take at pages; frames = 0 }) n0
    → HasMoreCells k k1 → AreCells k1 9 tree page.1 → HasGrown k1.pairs pairs → IsNameOf (0, 0) pairs name (1, tree)
    → PutsPage (record k1 { pairs = pairs }) n0 page.0 name k4 n4 → AreMemoryNames k4 (record { pages = take (at + 1) pages; frames = 0 }) n4
page_noted k k1 k4 pairs n0 n4 pages at page tree name up got h more cells grown is put =
    let k2 : Store = record k1 { pairs = pairs } in
    let was : Memory = record { pages = take at pages; frames = 0 } in
    let now : Memory = record { pages = take (suc at) pages; frames = 0 } in
    let added = page_added pages up at page got in
    let next : suc at ≡ at + 1 = omega arith in
    let named : IsPageName k2 page.1 name = record { tree = tree; is = is; named = cells_stay k1 k2 9 tree page.1 grown (take-length k1.cells) cells } in
    let all = put_noted k k2 k4 (more_twice k k1 k2 more (more_pairs k1 pairs grown)) was now n0 n4 page.0 name h put added.1
    (subst (λ (o : Option (List Cell)). IsOrNone (IsPageName k4) o name) (sym added.0) (page_stays k2 k4 put.still page.1 name named)) in
    subst (λ i. AreMemoryNames k4 (record { pages = take i pages; frames = 0 }) n4) next all

-- what is known of the page of a word that was written, whose name's pair is read
pub record WrittenPage (k : Store) (now : Memory) (word page tree : ℕ) (cell : Cell) : Type 0 where
  pub cells : List Cell
  pub was : IsPageName k cells page
  pub same : tree ≡ was.tree
  pub now_is : page_at now (page_of word) ≡ Some (slice_set cells (place_of word) cell)

pub written_page : (k : Store) (m now : Memory) (n : Names) (word page : ℕ) (parts : ℕ × ℕ) (c cell : Cell) → now ≡ put_cell m word c → word % 8 ≡ 0 → AreMemoryNames k m n
    → Some cell ≡ cell_at now word → page ≡ page_name k n (page_of word) → parts ≡ pair_of k.pairs page → WrittenPage k now word page parts.1 cell
written_page k m now n word page parts c cell is aligned h some name pair =
    let w = written m now word c is aligned cell some in
    let known = subst (λ l. IsOrNone (IsPageName k) (page_at m (page_of word)) l) (sym name) (h.pages (page_of word)) in
    let was : IsPageName k w.0 page = subst (λ (o : Option (List Cell)). IsOrNone (IsPageName k) o page) w.1 known in
    record { cells = w.0; was = was; same = ap (λ (p : ℕ × ℕ). p.1) (pair ∙ was.is.is); now_is = w.2 }

-- a page of zeros
zero_leaves : (n : ℕ) (kept : List Cell) → AllZip (λ cell leaf. IsNameOf zero_cell kept leaf cell) (replicate n zero_cell) (replicate n 0)
zero_leaves zero kept = tt
zero_leaves (suc n) kept = (record { within = omega arith; is = refl }, zero_leaves n kept)

zero_at : (n at : ℕ) → (let none : ℕ = 0 in slice_index_or (replicate n none) at none ≡ none)
zero_at zero at = refl
zero_at (suc n) zero = refl
zero_at (suc n) (suc at) = zero_at n at

pub zero_cells : (k : Store) → AreCells k 9 0 zero_page
zero_cells k =
    let all : leaves k.pairs 9 0 ≡ replicate 512 0 =
    same_numbers (leaves k.pairs 9 0) (replicate 512 0) (length_leaves k.pairs 9 0 ∙ sym (let none : ℕ = 0 in length-replicate 512 none)) (λ at. none_at k.pairs 9 at ∙ sym (zero_at 512 at)) in
    record { inner = none_tree k.pairs 9; names = subst (AllZip (λ cell leaf. IsNameOf zero_cell k.cells leaf cell) zero_page) (sym all) (zero_leaves 512 k.cells) }

-- 4. A page that came or went.

pub record CameAt (m now : Memory) (mapped : List ℕ) (at : ℕ) : Type 0 where
  pub page : ℕ
  pub is : now ≡ map_page m page
  pub within : at < length now.pages
  pub got : slice_get (mapped_pages now) at ≡ Some page
  pub list : insert mapped at page ≡ mapped_pages now

pub record WentAt (m now : Memory) (mapped : List ℕ) (at : ℕ) : Type 0 where
  pub page : ℕ
  pub is : now ≡ unmap_page m page
  pub within : at < length mapped
  pub got : slice_get mapped at ≡ Some page
  pub list : remove mapped at ≡ mapped_pages now

pub came : (m : Memory) (p : ℕ) → page_at m p ≡ None → ComesIn (mapped_pages m) (mapped_pages (map_page m p)) p
unfolding map_page
came m p none = comes_in m.pages p zero_page none

pub went : (m : Memory) (p : ℕ) → T (is_sorted nat_cmp m.pages) → is_mapped m p ≡ true → GoesOut (mapped_pages m) (mapped_pages (unmap_page m p)) p
unfolding unmap_page
went m p up some = goes_out m.pages p up some

module _ (m now : Memory) (mapped list : List ℕ) (at : ℕ) (value : list ≡ mapped) (first : at ≡ first_other list (mapped_pages now))
    (up : IsTrue (is_sorted nat_cmp m.pages)) (same : mapped ≡ mapped_pages m) where
  first_is : first_other mapped (mapped_pages now) ≡ at
  first_is = sym (first ∙ ap (λ l. first_other l (mapped_pages now)) value)

  come : (p : ℕ) → page_at m p ≡ None → now ≡ map_page m p → ComesIn mapped (mapped_pages now) p
  come p none is = subst (λ (v : Memory). ComesIn mapped (mapped_pages v) p) (sym is) (subst (λ l. ComesIn l (mapped_pages (map_page m p)) p) (sym same) (came m p none))

  go : (p : ℕ) → is_mapped m p ≡ true → now ≡ unmap_page m p → GoesOut mapped (mapped_pages now) p
  go p some is = subst (λ (v : Memory). GoesOut mapped (mapped_pages v) p) (sym is)
      (subst (λ l. GoesOut l (mapped_pages (unmap_page m p)) p) (sym same) (went m p (subst T (sym up) tt) some))

  count : length (mapped_pages now) ≡ length now.pages
  count = length-map now.pages (λ (e : ℕ × List Cell). e.0)

  pub came_at : HasOtherPage m now → length mapped < length now.pages → CameAt m now mapped at
  came_at h more = by h.1
    where
      by : ((page_at m h.0 ≡ None) × (now ≡ map_page m h.0)) ⊎ ((is_mapped m h.0 ≡ true) × (now ≡ unmap_page m h.0)) → CameAt m now mapped at
      by (inl p) =
          let c = come h.0 p.0 p.1 in
          let got = subst (λ n. slice_get (mapped_pages now) n ≡ Some h.0) first_is c.at in
          let within = slice_get_within (mapped_pages now) at h.0 got in
          let many = count in
          record { page = h.0; is = p.1; within = omega (arith, within, many); got = got; list = ap (λ n. insert mapped n h.0) (sym first_is) ∙ c.list }
      by (inr p) = let long = (go h.0 p.0 p.1).long in let many = count in absurd (omega (arith, long, many, more))

  pub went_at : HasOtherPage m now → length now.pages ≤ length mapped → WentAt m now mapped at
  went_at h less = by h.1
    where
      by : ((page_at m h.0 ≡ None) × (now ≡ map_page m h.0)) ⊎ ((is_mapped m h.0 ≡ true) × (now ≡ unmap_page m h.0)) → WentAt m now mapped at
      by (inl p) = let long = (come h.0 p.0 p.1).long in let many = count in absurd (omega (arith, long, many, less))
      by (inr p) =
          let c = go h.0 p.0 p.1 in
          let got = subst (λ n. slice_get mapped n ≡ Some h.0) first_is c.at in
          record { page = h.0; is = p.1; within = slice_get_within mapped at h.0 got; got = got; list = ap (remove mapped) (sym first_is) ∙ c.list }

pub come_noted : (k k4 : Store) (pairs : List (ℕ × ℕ)) (m now : Memory) (n0 n4 : Names) (page number name : ℕ) → AreMemoryNames k m n0 → HasGrown k.pairs pairs
    → IsNameOf (0, 0) pairs name (1, 0) → now ≡ map_page m page → number ≡ page → PutsPage (record k { pairs = pairs }) n0 number name k4 n4 → AreMemoryNames k4 now n4
come_noted k k4 pairs m now n0 n4 page number name h grown is mapped same put =
    let k2 : Store = record k { pairs = pairs } in
    let here : page_at now number ≡ Some zero_page = (λ j. page_at (mapped j) (same j)) ∙ page_at-map_same m page in
    put_noted k k2 k4 (more_pairs k pairs grown) m now n0 n4 number name h put
    (λ q ne. ap (λ (v : Memory). page_at v q) mapped ∙ page_at-map_other m page q (λ e. ne (e ∙ sym same)))
    (subst (λ (o : Option (List Cell)). IsOrNone (IsPageName k4) o name) (sym here) (page_stays k2 k4 put.still zero_page name (record { tree = 0; is = is; named = zero_cells k2 })))

pub gone_noted : (k k4 : Store) (m now : Memory) (n0 n4 : Names) (page number : ℕ) → AreMemoryNames k m n0 → now ≡ unmap_page m page → number ≡ page
    → PutsPage k n0 number 0 k4 n4 → AreMemoryNames k4 now n4
gone_noted k k4 m now n0 n4 page number h unmapped same put =
    let here : page_at now number ≡ None = (λ j. page_at (unmapped j) (same j)) ∙ page_at-unmap_same m page in
    put_noted k k k4 (record { pairs = take-length k.pairs; cells = take-length k.cells; others = refl }) m now n0 n4 number 0 h put
    (λ q ne. ap (λ (v : Memory). page_at v q) unmapped ∙ page_at-unmap_other m page q (λ e. ne (e ∙ sym same)))
    (subst (λ (o : Option (List Cell)). IsOrNone (IsPageName k4) o 0) (sym here) refl)
