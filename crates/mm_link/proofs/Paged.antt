-- The pages of linked objects are whole and rise, and hold words.
use Rattle.std.proofs.Common.{◌≡◌, ℕ, zero, suc, ◌+◌, ◌^◌, ◌<◌, ◌≤◌, min, Bool, true, false, cond, List, [], ◌∷◌, ◌++◌}
use Rattle.std.proofs.Common.{length, length-append, length-take, take, drop, replicate, find, Option, Some, None, refl}
use Rattle.std.proofs.{Common.{ap, ◌∙◌, subst, arith}, lemmas.{List.length-replicate, Bool.and_parts}}
use Rattle.std.specs.List.{flat_map, AllByRecursion}
use Rattle.mm_word.specs.{declared.word.Cell.Cell, Word.IsWord}
use Rattle.mm_model.specs.{Memory.{zero_cell, zero_page, IsPage, ArePages}, Spelling.HoldsWords}
use Rattle.mm_model.proofs.Bytes.Rising.{AreRisingFrom, sorted_from}
use Rattle.mm_object.specs.{declared.{item.Item.Item, target.Reloc.Reloc}, Lookups.{is_at, reloc_at}}
use Rattle.mm_object.specs.Objects.{Object, IsObject, is_reloc, is_target}
use Rattle.mm_object.proofs.Members.{each_more, each_take, each_drop, each_replicate, each_passes}
use Rattle.mm_link.specs.Placing.{Part, Site, parts_of, by_length, sites_of}
use Rattle.mm_link.specs.Linked.{word_by, cells_from, unused, part_cells, cells_of, pages_from}
use Rattle.mm_link.proofs.{Parts.{IsPart, are_parts, are_placed_parts}, SegmentPlaces.{IsNear, pointer_fits}}

-- 1. Cells hold words.

abbrev pub HoldsWord : Cell → Type 0
HoldsWord c = IsWord c.word

zero_holds : HoldsWord zero_cell
zero_holds = omega arith

module _ (o : Object) (r : Reloc) (segment k : ℕ) where
  abbrev PointsWell : Reloc → Type 0
  PointsWell x = is_target o.segments (length o.externals) x.target ≡ true

  first_is : (relocs : List Reloc) → AllByRecursion (λ x. is_reloc o.segments (length o.externals) x ≡ true) relocs → find (is_at segment k) relocs ≡ Some r → PointsWell r
  first_is [] h e = absurd cc
  first_is (x ∷ relocs) h e = by (is_at segment k x) e (first_is relocs h.1)
    where
      by : (b : Bool) → cond b (Some x) (find (is_at segment k) relocs) ≡ Some r → (find (is_at segment k) relocs ≡ Some r → PointsWell r) → PointsWell r
      by true e later = let same : x ≡ r = cc in subst PointsWell same (and_parts _ _ h.0).1
      by false e later = later e

  relocated : IsObject o → reloc_at o segment k ≡ Some r → PointsWell r
  unfolding reloc_at
  relocated is e = first_is o.relocs (each_passes (is_reloc o.segments (length o.externals)) o.relocs is.relocs) e

module _ (sites : List Site) (near : AllByRecursion IsNear sites) where
  word_holds : (o : Object) (bits : ℕ) (found : Option Reloc) → IsObject o → bits < 2 ^ 64
      → ((r : Reloc) → found ≡ Some r → is_target o.segments (length o.externals) r.target ≡ true) → IsWord (word_by sites o found bits)
  word_holds o bits None is lt good = lt
  word_holds o bits (Some r) is lt good = pointer_fits sites o r.perm r.target near is (good r refl)

  items_hold : (o : Object) → IsObject o → (segment k : ℕ) (items : List Item) → AllByRecursion (λ (item : Item). item.bits < 2 ^ 64) items
      → AllByRecursion HoldsWord (cells_from sites o segment k items)
  items_hold o is segment k [] h = tt
  items_hold o is segment k (item ∷ items) h =
      (word_holds o item.bits (reloc_at o segment k) is h.0 (λ r e. relocated o r segment k is e), items_hold o is segment (k + 1) items h.1)

  part_holds : (p : Part) → IsPart p → AllByRecursion HoldsWord (part_cells sites p)
  unfolding part_cells
  part_holds p is =
      each_more HoldsWord (cells_from sites p.object p.number 0 p.segment.items) (replicate (unused p.segment) zero_cell)
      (items_hold p.object is.object p.number 0 p.segment.items is.segment.words) (each_replicate HoldsWord (unused p.segment) zero_cell zero_holds)

  parts_hold : (parts : List Part) → AllByRecursion IsPart parts → AllByRecursion HoldsWord (flat_map (part_cells sites) parts)
  parts_hold [] h = tt
  parts_hold (p ∷ parts) h = each_more HoldsWord (part_cells sites p) (flat_map (part_cells sites) parts) (part_holds p h.0) (parts_hold parts h.1)

pub cells_hold : (objects : List Object) → AllByRecursion IsObject objects → AllByRecursion IsNear (sites_of objects) → AllByRecursion HoldsWord (cells_of objects)
unfolding cells_of
cells_hold objects are near = parts_hold (sites_of objects) near (by_length (parts_of objects)) (are_placed_parts (parts_of objects) (are_parts objects are))

-- 2. Pages.

pub page_size : (n : ℕ) (cells : List Cell) (c : Cell) → length (take n (cells ++ replicate n c)) ≡ n
page_size n cells c = length-take n (cells ++ replicate n c) ∙ least n (length (cells ++ replicate n c)) (length cells)
    (length-append cells (replicate n c) ∙ ap (λ k. length cells + k) (length-replicate n c))
  where
    least : (n m k : ℕ) → m ≡ k + n → min n m ≡ n
    least n m k e = omega arith

pub pages_long : (count number : ℕ) (cells : List Cell) → length (pages_from count number cells) ≡ count
pages_long zero number cells = refl
pages_long (suc count) number cells = ap suc (pages_long count (number + 1) (drop 512 cells))

pages_rise : (count number : ℕ) (cells : List Cell) → AreRisingFrom number (pages_from count number cells)
pages_rise zero number cells = tt
pages_rise (suc count) number cells = (omega arith, pages_rise count (number + 1) (drop 512 cells))

each_page : (count number : ℕ) (cells : List Cell) → number + count ≤ 2 ^ 42 → AllByRecursion IsPage (pages_from count number cells)
each_page zero number cells le = tt
each_page (suc count) number cells le = (record { number = omega arith; cells = page_size 512 cells zero_cell }, each_page count (number + 1) (drop 512 cells) (omega arith))

pub pages_whole : (count number : ℕ) (cells : List Cell) → number + count ≤ 2 ^ 42 → ArePages (pages_from count number cells)
pages_whole count number cells le = record { rising = sorted_from number (pages_from count number cells) (pages_rise count number cells); whole = each_page count number cells le }

pub pages_hold : (count number : ℕ) (cells : List Cell) → AllByRecursion HoldsWord cells → AllByRecursion HoldsWords (pages_from count number cells)
pages_hold zero number cells h = tt
pages_hold (suc count) number cells h = (
  each_take HoldsWord 512 (cells ++ zero_page) (each_more HoldsWord cells zero_page h (each_replicate HoldsWord 512 zero_cell zero_holds)),
  pages_hold count (number + 1) (drop 512 cells) (each_drop HoldsWord 512 cells h),
)
