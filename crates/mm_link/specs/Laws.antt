-- Laws of linked objects.
use Rattle.std.specs.Prelude.{◌≡◌, ◌≢◌, ◌↔◌, ℕ, ◌+◌, ◌*◌, ◌%◌, ◌^◌, ◌<◌, ◌≤◌, true, List, length, slice_get, Contains}
use Rattle.std.specs.{Prelude.{AllPairs, Some}, List.{filter, flat_map, AllByRecursion, Sorted.IsPermutation}}
use Rattle.mm_word.specs.{declared.{perm.Perm.Perm, word.Cell.Cell}, Pointer.{Pointer, base_of}}
use Rattle.mm_model.specs.{Memory.{cell_at, is_mapped, page_of, zero_cell}, Image.Image, Spelling.IsImage}
use Rattle.mm_object.specs.declared.{item.Item.Item, target.Target.Target, thread.Thread.Thread}
use Rattle.mm_object.specs.{Lookups.name_of_target, Objects.{Object, IsObject, are_apart, is_among, targets_of}}
use Rattle.mm_link.specs.Placing.{Part, Site, parts_of, has_log, by_length, sites_of, site_in, pointer_to}
use Rattle.mm_link.specs.Faults.{names_of, threads_of, page_count, frames_of}
use Rattle.mm_link.specs.Linked.{Linked, cell_of, first_page, object_slots}

-- 1. The places of segments.

-- each segment has its place
abbrev pub AllSegmentsArePlaced : Type 0
AllSegmentsArePlaced = (objects : List Object) → AllByRecursion IsObject objects
    → IsPermutation (parts_of objects) (by_length (parts_of objects))

-- segments of the same length are placed as they are given
abbrev pub TiesStandAsGiven : Type 0
TiesStandAsGiven = (objects : List Object) → AllByRecursion IsObject objects → (log : ℕ)
    → filter (has_log log) (by_length (parts_of objects)) ≡ filter (has_log log) (parts_of objects)

-- a longer segment is placed before a shorter one
abbrev pub LengthsFall : Type 0
LengthsFall =
    (objects : List Object) → AllPairs (λ (a b : Part). b.segment.log ≤ a.segment.log) (by_length (parts_of objects))

-- each segment begins at a multiple of its length
abbrev pub SegmentsAreAligned : Type 0
SegmentsAreAligned = (objects : List Object) (s : Site) → Contains (sites_of objects) s → s.base % 2 ^ s.log ≡ 0

-- each segment ends before the next begins, so that no two overlap
abbrev pub SegmentsAreDisjoint : Type 0
SegmentsAreDisjoint =
    (objects : List Object) → AllPairs (λ (a b : Site). a.base + 2 ^ a.log ≤ b.base) (sites_of objects)

-- when objects link, each segment is found by its name
abbrev pub SegmentsAreFound : Type 0
SegmentsAreFound = (objects : List Object) (i : Image) → AllByRecursion IsObject objects → Linked objects i
    → (p : Part) → Contains (parts_of objects) p → (s : Site) × (site_in (sites_of objects) p.segment.name ≡ Some s)
    × (s.log ≡ p.segment.log)

-- 2. The words at these places.

-- Word k of a segment is at this address, in the segment's place.
pub record StandsAt (objects : List Object) (p : Part) (k : ℕ) (item : Item) (w : ℕ) : Type 0 where
  pub part : Contains (parts_of objects) p
  pub word : slice_get p.segment.items k ≡ Some item
  pub site : Site
  pub named : site_in (sites_of objects) p.segment.name ≡ Some site
  pub address : w ≡ site.base + 8 * k

-- each word of each segment is in its cell
abbrev pub WordsStandInTheirCells : Type 0
WordsStandInTheirCells = (objects : List Object) (i : Image) → AllByRecursion IsObject objects → Linked objects i
    → (p : Part) (k : ℕ) (item : Item) (w : ℕ) → StandsAt objects p k item w
    → cell_at i.memory w ≡ Some (cell_of (sites_of objects) p.object p.number k item)

-- each cell that holds no word of a segment is integer 0, full
abbrev pub OtherCellsAreZero : Type 0
OtherCellsAreZero = (objects : List Object) (i : Image) → AllByRecursion IsObject objects → Linked objects i
    → (w : ℕ) (cell : Cell) → cell_at i.memory w ≡ Some cell
    → ((p : Part) (k : ℕ) (item : Item) → StandsAt objects p k item w → ⊥) → cell ≡ zero_cell

-- 3. Pages, pointers, slots.

-- the pages that are mapped are those from the first one on, as many as all segments need
abbrev pub PagesAreThoseOfSegments : Type 0
PagesAreThoseOfSegments = (objects : List Object) (i : Image) → AllByRecursion IsObject objects → Linked objects i
    → (page : ℕ) → (is_mapped i.memory page ≡ true) ↔ ((first_page ≤ page) × (page < first_page + page_count objects))

-- each byte of each segment is in a page that is mapped
abbrev pub SegmentsAreMapped : Type 0
SegmentsAreMapped = (objects : List Object) (i : Image) → AllByRecursion IsObject objects → Linked objects i
    → (s : Site) → Contains (sites_of objects) s → (a : ℕ) → s.base ≤ a → a < s.base + 2 ^ s.log
    → is_mapped i.memory (page_of a) ≡ true

-- each page that is mapped has a byte of a segment
abbrev pub PagesHoldSegments : Type 0
PagesHoldSegments = (objects : List Object) (i : Image) → AllByRecursion IsObject objects → Linked objects i
    → (page : ℕ) → is_mapped i.memory page ≡ true → (s : Site) × Contains (sites_of objects) s × (a : ℕ) × (s.base ≤ a)
    × (a < s.base + 2 ^ s.log) × (page_of a ≡ page)

-- A pointer is into a segment, with a permission and at an offset: its segment has the site's length and base, and its
-- address is in it.
pub record IsInto (s : Site) (by : Perm) (at : ℕ) (p : Pointer) : Type 0 where
  pub perm : p.perm ≡ by
  pub address : p.addr ≡ s.base + at
  pub log : p.log ≡ s.log
  pub base : base_of p ≡ s.base
  pub inside : p.addr < s.base + 2 ^ s.log

-- the pointers that the targets of relocations, registers and instruction pointers become are into the segments that
-- have the targets' names, and each such segment is there
abbrev pub PointersAreIntoTheirSegments : Type 0
PointersAreIntoTheirSegments = (objects : List Object) (i : Image) → AllByRecursion IsObject objects → Linked objects i
    → (o : Object) → Contains objects o → (t : Target) → Contains (targets_of o.relocs o.threads) t → (perm : Perm)
    → (s : Site) × Contains (sites_of objects) s × (s.name ≡ name_of_target o t)
    × IsInto s perm t.addend (pointer_to (sites_of objects) o perm t)

-- the slots of the image are those of the threads, each once
abbrev pub SlotsAreThreads : Type 0
SlotsAreThreads = (objects : List Object) (i : Image) → AllByRecursion IsObject objects → Linked objects i
    → IsPermutation (flat_map (object_slots (sites_of objects)) objects) i.slots

-- 4. The whole.

-- what objects link to is an image
abbrev pub LinkedObjectsAreImages : Type 0
LinkedObjectsAreImages =
    (objects : List Object) (i : Image) → AllByRecursion IsObject objects → Linked objects i → IsImage i

-- The conditions under which objects link.
pub record LinkWell (objects : List Object) : Type 0 where
  -- no two segments have the same name
  pub apart : are_apart (names_of objects) ≡ true
  -- each external is a segment's name
  pub defined : (o : Object) → Contains objects o → (name : List ℕ) → Contains o.externals name
      → is_among name (names_of objects) ≡ true
  -- each use of an external is at an offset in its segment
  pub within : (o : Object) → Contains objects o → (t : Target) → Contains (targets_of o.relocs o.threads) t
      → length o.segments ≤ t.index
      → (s : Site) → Contains (sites_of objects) s → s.name ≡ name_of_target o t → t.addend < 2 ^ s.log
  -- no two threads have the same slot, and there is a thread
  pub slots : AllPairs (λ (a b : Thread). a.slot ≢ b.slot) (threads_of objects)
  pub some : 1 ≤ length (threads_of objects)
  -- each handler is a thread's slot
  pub handlers : (t : Thread) → Contains (threads_of objects) t → (h : ℕ) → t.handler ≡ Some h → (s : Thread)
      × Contains (threads_of objects) s × (s.slot ≡ h)
  pub frames : frames_of objects ≤ 256

-- objects link to an image exactly under these conditions
abbrev pub ObjectsLinkExactly : Type 0
ObjectsLinkExactly =
    (objects : List Object) → AllByRecursion IsObject objects → ((i : Image) × Linked objects i) ↔ LinkWell objects
