-- Each word of each segment stands in its cell, and each other cell is integer 0, full.
use Rattle.std.proofs.Common.{◌≡◌, ◌⊎◌, ℕ, zero, suc, ◌+◌, ◌-◌, ◌*◌, ◌^◌, ◌<◌, ◌≤◌, true, List, [], ◌∷◌, ◌++◌, length}
use Rattle.std.proofs.Common.{bytes_eq, length-append, get_or, replicate, slice_get, Some, refl, sym, ap, ◌∙◌, subst}
use Rattle.std.proofs.Common.{inl, inr, arith, append_assoc, zero-add}
use Rattle.std.proofs.lemmas.{Bool.cases_lt, List.{length-replicate, get_or_append_left, get_or-append-add}}
use Rattle.std.proofs.lemmas.{Nat.pow-add, Option.{get_or_from_slice_get, slice_get_within, slice_get_cases}}
use Rattle.std.{proofs.lemmas.Slice.Eq.bytes_eq-Decides, specs.List.{flat_map, AllByRecursion}}
use Rattle.mm_word.specs.declared.word.Cell.{Cell}
use Rattle.mm_model.specs.{Memory.{cell_at, zero_cell}, Image.Image}
use Rattle.mm_object.specs.{declared.item.Item.Item, Objects.{Object, IsObject}}
use Rattle.mm_object.proofs.Members.{In, in_right, each_left, contained, from_contained}
use Rattle.mm_link.specs.Placing.{Part, Site, parts_of, by_length, sites_from, sites_of, site_in, bytes_of, origin}
use Rattle.mm_link.specs.Faults.{page_count, frames_of}
use Rattle.mm_link.specs.Linked.{cell_of, cells_from, unused, part_cells, cells_of, pages_of, image_of}
use Rattle.mm_link.specs.Laws.{StandsAt, WordsStandInTheirCells, OtherCellsAreZero}
use Rattle.mm_link.proofs.Parts.{IsPart, are_parts, are_placed_parts, bytes_placed, from_by_length, in_by_length}
use Rattle.mm_link.proofs.Clean.{clean, few_bytes}
use Rattle.mm_link.proofs.Named.{named, named_more, named_in, once_named, Splits, splits, is_split, found_site}
use Rattle.mm_link.proofs.Celled.{cell_there, cell_within}

-- 1. The cells of a part.

cells_get : (sites : List Site) (o : Object) (segment from k : ℕ) (items : List Item) (item : Item) → slice_get items k ≡ Some item
    → slice_get (cells_from sites o segment from items) k ≡ Some (cell_of sites o segment (from + k) item)
cells_get sites o segment from k [] item e = absurd cc
cells_get sites o segment from zero (x ∷ items) item e =
    let same : x ≡ item = cc in
    let place : from ≡ from + 0 = omega arith in
    ap (λ (y : Item). Some (cell_of sites o segment from y)) same ∙ ap (λ n. Some (cell_of sites o segment n item)) place
cells_get sites o segment from (suc k) (x ∷ items) item e =
    let place : from + 1 + k ≡ from + suc k = omega arith in
    cells_get sites o segment (from + 1) k items item e ∙ ap (λ n. Some (cell_of sites o segment n item)) place

cells_long : (sites : List Site) (o : Object) (segment from : ℕ) (items : List Item) → length (cells_from sites o segment from items) ≡ length items
cells_long sites o segment from [] = refl
cells_long sites o segment from (x ∷ items) = ap suc (cells_long sites o segment (from + 1) items)

-- past a list, items of one kind are found
get_past : {A : Type 0} (xs : List A) (n k : ℕ) (c : A) → length xs ≤ k → get_or (xs ++ replicate n c) k c ≡ c
get_past [] zero k c le = refl
get_past [] (suc n) zero c le = refl
get_past [] (suc n) (suc k) c le = get_past [] n k c (omega arith)
get_past (x ∷ xs) n zero c le = absurd (omega arith)
get_past (x ∷ xs) n (suc k) c le = get_past xs n k c (omega arith)

-- a word is in its cell
part_word : (sites : List Site) (p : Part) (k : ℕ) (item : Item) → slice_get p.segment.items k ≡ Some item
    → (k < length (part_cells sites p)) × (get_or (part_cells sites p) k zero_cell ≡ cell_of sites p.object p.number k item)
unfolding part_cells
part_word sites p k item e =
    let items = cells_from sites p.object p.number 0 p.segment.items in
    let fill = replicate (unused p.segment) zero_cell in
    let lt = slice_get_within p.segment.items k item e in
    let long = cells_long sites p.object p.number 0 p.segment.items in
    let at = cells_get sites p.object p.number 0 k p.segment.items item e ∙ ap (λ n. Some (cell_of sites p.object p.number n item)) (zero-add k) in
    (omega (arith, length-append items fill), get_or_append_left items fill zero_cell k (omega arith) ∙ get_or_from_slice_get items k (cell_of sites p.object p.number k item) zero_cell at)

part_zero : (sites : List Site) (p : Part) (k : ℕ) → length p.segment.items ≤ k → get_or (part_cells sites p) k zero_cell ≡ zero_cell
unfolding part_cells
part_zero sites p k le =
    let long = cells_long sites p.object p.number 0 p.segment.items in
    get_past (cells_from sites p.object p.number 0 p.segment.items) (unused p.segment) k zero_cell (omega arith)

part_long : (sites : List Site) (p : Part) → IsPart p → 8 * length (part_cells sites p) ≡ 2 ^ p.segment.log
unfolding part_cells
part_long sites p is =
    let items = cells_from sites p.object p.number 0 p.segment.items in
    let a = length-append items (replicate (unused p.segment) zero_cell) in
    let b = length-replicate (unused p.segment) zero_cell in
    let c = cells_long sites p.object p.number 0 p.segment.items in
    let room = is.segment.room in
    let least = is.segment.least in
    let parts : p.segment.log ≡ p.segment.log - 3 + 3 = omega arith in
    let power : 2 ^ p.segment.log ≡ 2 ^ (p.segment.log - 3) * 8 = ap (λ n. 2 ^ n) parts ∙ pow-add 2 (p.segment.log - 3) 3 in
    omega arith

-- 2. The cells of all parts.

module _ (sites : List Site) where
  abbrev cells : List Part → List Cell
  cells parts = flat_map (part_cells sites) parts

  cells_bytes : (parts : List Part) → AllByRecursion IsPart parts → 8 * length (cells parts) ≡ bytes_of parts
  cells_bytes [] h = refl
  cells_bytes (p ∷ parts) h =
      let a = length-append (part_cells sites p) (cells parts) in
      let b = part_long sites p h.0 in
      let c = cells_bytes parts h.1 in
      omega arith

  cells_split : (before after : List Part) (p : Part) → cells (before ++ p ∷ after) ≡ cells before ++ (part_cells sites p ++ cells after)
  cells_split [] after p = refl
  cells_split (x ∷ before) after p =
      ap (λ ys. part_cells sites x ++ ys) (cells_split before after p) ∙ sym (append_assoc (part_cells sites x) (cells before) (part_cells sites p ++ cells after))

  word_there : (before after : List Part) (p : Part) (k : ℕ) (item : Item) → slice_get p.segment.items k ≡ Some item
      → (length (cells before) + k < length (cells (before ++ p ∷ after))) × (get_or (cells (before ++ p ∷ after)) (length (cells before) + k) zero_cell ≡ cell_of sites p.object p.number k item)
  word_there before after p k item e =
      let here = part_word sites p k item e in
      let behind = part_cells sites p ++ cells after in
      let split = cells_split before after p in
      let lt = here.0 in
      let long : length (cells (before ++ p ∷ after)) ≡ length (cells before) + (length (part_cells sites p) + length (cells after)) =
      ap length split ∙ length-append (cells before) behind ∙ ap (λ n. length (cells before) + n) (length-append (part_cells sites p) (cells after)) in (
        omega arith,
        ap (λ ys. get_or ys (length (cells before) + k) zero_cell) split ∙ get_or-append-add (cells before) behind k
            zero_cell ∙ get_or_append_left (part_cells sites p) (cells after) zero_cell k lt ∙ here.1,
      )

  -- a cell that is a word's
  record Holds (parts : List Part) (j : ℕ) : Type 0 where
    before : List Part
    part : Part
    after : List Part
    whole : parts ≡ before ++ part ∷ after
    k : ℕ
    item : Item
    word : slice_get part.segment.items k ≡ Some item
    place : j ≡ length (cells before) + k

  -- a cell is a word's, or integer 0
  zero_or_word : (parts : List Part) (j : ℕ) → (get_or (cells parts) j zero_cell ≡ zero_cell) ⊎ Holds parts j
  zero_or_word [] j = inl refl
  zero_or_word (p ∷ parts) j = elim (cases_lt j (length (part_cells sites p))) [
    | inl here ↦ elim (slice_get_cases p.segment.items j).1 [
      | inl word ↦ inr (record { before = []; part = p; after = parts; whole = refl; k = j; item = word.0; word = word.2; place = omega arith })
      | inr none ↦ inl (get_or_append_left (part_cells sites p) (cells parts) zero_cell j here ∙ part_zero sites p j none.0)
    ]
    | inr later ↦ behind (zero_or_word parts (j - length (part_cells sites p))) later
  ]
    where
      behind : (get_or (cells parts) (j - length (part_cells sites p)) zero_cell ≡ zero_cell) ⊎ Holds parts (j - length (part_cells sites p)) → length (part_cells sites p) ≤ j
          → (get_or (cells (p ∷ parts)) j zero_cell ≡ zero_cell) ⊎ Holds (p ∷ parts) j
      behind (inl e) le =
          let place : j ≡ length (part_cells sites p) + (j - length (part_cells sites p)) = omega arith in
          inl (ap (λ n. get_or (cells (p ∷ parts)) n zero_cell) place ∙ get_or-append-add (part_cells sites p) (cells parts) (j - length (part_cells sites p)) zero_cell ∙ e)
      behind (inr h) le =
          let long = length-append (part_cells sites p) (cells h.before) in
          let at = h.place in
          inr (record { before = p ∷ h.before; part = h.part; after = h.after; whole = ap (λ ys. p ∷ ys) h.whole; k = h.k; item = h.item; word = h.word; place = omega arith })

-- 3. The laws.

module _ (objects : List Object) (are : AllByRecursion IsObject objects) where
  abbrev sites : List Site
  sites = sites_of objects

  abbrev order : List Part
  order = by_length (parts_of objects)

  is_parts : AllByRecursion IsPart order
  is_parts = are_placed_parts (parts_of objects) (are_parts objects are)

  front_bytes : (before after : List Part) (p : Part) → order ≡ before ++ p ∷ after → 8 * length (cells sites before) ≡ bytes_of before
  front_bytes before after p whole = cells_bytes sites before (each_left IsPart before (p ∷ after) (subst (AllByRecursion IsPart) whole is_parts))

  all_bytes : 8 * length (cells sites order) ≤ 4096 * page_count objects
  all_bytes = omega (arith, cells_bytes sites order is_parts, bytes_placed (parts_of objects) (are_parts objects are), few_bytes objects)

  memory_cell : (j : ℕ) → j < 512 * page_count objects → cell_at (image_of objects).memory (origin + 8 * j) ≡ Some (get_or (cells sites order) j zero_cell)
  unfolding image_of pages_of cells_of
  memory_cell j lt = cell_there (page_count objects) (frames_of objects) (cells sites order) j lt

  memory_within : (w : ℕ) (cell : Cell) → cell_at (image_of objects).memory w ≡ Some cell
      → (j : ℕ) × (j < 512 * page_count objects) × (w ≡ origin + 8 * j) × (cell ≡ get_or (cells sites order) j zero_cell)
  unfolding image_of pages_of cells_of
  memory_within w cell e = cell_within (page_count objects) (frames_of objects) (cells sites order) w cell e

  split_of : (name : List ℕ) (s : Site) → site_in sites name ≡ Some s → Splits origin order name s
  unfolding sites_of
  split_of name s e = splits origin order name s e

  found_of : (before after : List Part) (p : Part) → order ≡ before ++ p ∷ after → named p.segment.name before ≡ 0
      → site_in sites p.segment.name ≡ Some (record { name = p.segment.name; log = p.segment.log; base = origin + bytes_of before })
  unfolding sites_of
  found_of before after p whole none = ap (λ ps. site_in (sites_from origin ps) p.segment.name) whole ∙ found_site origin before after p none

  itself : (name : List ℕ) → bytes_eq name name ≡ true
  itself name = (bytes_eq-Decides name name).1 refl

  module _ (once : (name : List ℕ) → named name order ≤ 1) where
    word_stands : (p : Part) (k : ℕ) (item : Item) (w : ℕ) → StandsAt objects p k item w → cell_at (image_of objects).memory w ≡ Some (cell_of sites p.object p.number k item)
    word_stands p k item w h =
        let r = split_of p.segment.name h.site h.named in
        let among = in_by_length p (parts_of objects) (are_parts objects are) (from_contained p (parts_of objects) h.part) in
        let same : p ≡ r.part = is_split order r.before r.after p r.part r.whole p.segment.name (once p.segment.name) r.same among (itself p.segment.name) in
        let word : slice_get r.part.segment.items k ≡ Some item = ap (λ (x : Part). slice_get x.segment.items k) (sym same) ∙ h.word in
        let front = front_bytes r.before r.after r.part r.whole in
        let j = length (cells sites r.before) + k in
        let there = word_there sites r.before r.after r.part k item word in
        let within = there.0 in
        let all = all_bytes in
        let long : length (cells sites order) ≡ length (cells sites (r.before ++ r.part ∷ r.after)) = ap (λ ps. length (cells sites ps)) r.whole in
        let address : w ≡ origin + 8 * j = h.address ∙ omega (arith, r.base) in
        ap (cell_at (image_of objects).memory) address ∙ memory_cell j (omega arith) ∙ ap (λ ps. Some (get_or (cells sites ps) j zero_cell)) r.whole ∙ ap Some there.1
        ∙ ap (λ (x : Part). Some (cell_of sites x.object x.number k item)) (sym same)

    stands : (j : ℕ) → (h : Holds sites order j) → StandsAt objects h.part h.k h.item (origin + 8 * j)
    stands j h =
        let name = h.part.segment.name in
        let few = once name in
        let count : named name order ≡ named name h.before + named name (h.part ∷ h.after) = ap (named name) h.whole ∙ named_more name h.before (h.part ∷ h.after) in
        let here = named_in name h.part (h.part ∷ h.after) (inl refl) (itself name) in
        let front = front_bytes h.before h.after h.part h.whole in
        let place = h.place in
        record {
          part = contained h.part (parts_of objects) (from_by_length h.part (parts_of objects) (subst (In h.part) (sym h.whole) (in_right h.part h.before (h.part ∷ h.after) (inl refl))));
          word = h.word;
          site = record { name = name; log = h.part.segment.log; base = origin + bytes_of h.before };
          named = found_of h.before h.after h.part h.whole (omega arith);
          address = omega arith;
        }

    other_zero : (w : ℕ) (cell : Cell) → cell_at (image_of objects).memory w ≡ Some cell → ((p : Part) (k : ℕ) (item : Item) → StandsAt objects p k item w → ⊥) → cell ≡ zero_cell
    other_zero w cell e none =
        let r = memory_within w cell e in
        elim (zero_or_word sites order r.0) [
          | inl z ↦ r.3 ∙ z
          | inr h ↦ absurd (none h.part h.k h.item (subst (StandsAt objects h.part h.k h.item) (sym r.2) (stands r.0 h)))
        ]

pub words_stand_in_their_cells : WordsStandInTheirCells
words_stand_in_their_cells objects i are linked p k item w h =
    ap (λ (x : Image). cell_at x.memory w) linked.image ∙ word_stands objects are (once_named objects are (clean objects linked.clean)) p k item w h

pub other_cells_are_zero : OtherCellsAreZero
other_cells_are_zero objects i are linked w cell e none =
    other_zero objects are (once_named objects are (clean objects linked.clean)) w cell (sym (ap (λ (x : Image). cell_at x.memory w) linked.image) ∙ e) none
