-- The image of linked objects.
use Rattle.std.specs.Prelude.{◌≡◌, ℕ, zero, suc, ◌+◌, ◌-◌, ◌^◌, ◌==◌, false, List, [], ◌∷◌, ◌++◌, map, length, take}
use Rattle.std.specs.{Prelude.{drop, replicate, Option, Some, None}, List.{flat_map, filter}}
use Rattle.mm_word.specs.declared.word.{Word.{Word, TheVariants.{Int, Ptr}}, Cell.Cell}
use Rattle.mm_model.specs.{declared.slot.SlotState.TheVariants.Running, Memory.{zero_cell, zero_page}, Slot.Slot}
use Rattle.mm_model.specs.Image.{Image, none_empty}
use Rattle.mm_object.specs.declared.{item.Item.Item, target.Reloc.Reloc, thread.{Value.Value, Thread.Thread}}
use Rattle.mm_object.specs.{Lookups.reloc_at, Objects.{Segment, Object}}
use Rattle.mm_link.specs.Placing.{Part, Site, parts_of, by_length, sites_of, pointer_to}
use Rattle.mm_link.specs.Faults.{link_fault, page_count, frames_of, slot_numbers}
use Rattle.mm_object.specs.declared.thread.Value.TheVariants as value

-- 1. Memory.

-- a word of an object: the pointer of its relocation, or the integer that it is
abbrev pub word_by : List Site → Object → Option Reloc → ℕ → Word
word_by sites o (Some r) bits = Ptr (pointer_to sites o r.perm r.target)
word_by sites o None bits = Int bits

-- the cell of word k of a segment
abbrev pub cell_of : List Site → Object → (segment k : ℕ) → Item → Cell
cell_of sites o segment k item = record { word = word_by sites o (reloc_at o segment k) item.bits; full = item.full }

-- the cells of the words from word k on
abbrev pub cells_from : List Site → Object → (segment k : ℕ) → List Item → List Cell
cells_from sites o segment k [] = []
cells_from sites o segment k (item ∷ items) = cell_of sites o segment k item ∷ cells_from sites o segment (k + 1) items

-- the count of a segment's cells after its words
abbrev pub unused : Segment → ℕ
unused s = 2 ^ (s.log - 3) - length s.items

-- all cells of a segment: those of its words, and after them integer 0, full
unfoldable pub part_cells : List Site → Part → List Cell
part_cells sites p = cells_from sites p.object p.number 0 p.segment.items ++ replicate (unused p.segment) zero_cell

-- all cells, one segment after another
unfoldable pub cells_of : List Object → List Cell
cells_of objects = flat_map (part_cells (sites_of objects)) (by_length (parts_of objects))

-- `count` pages from a number on, with these cells and after them integer 0, full
abbrev pub pages_from : (count number : ℕ) → List Cell → List (ℕ × List Cell)
pages_from zero number cells = []
pages_from (suc count) number cells =
    (number, take 512 (cells ++ zero_page)) ∷ pages_from count (number + 1) (drop 512 cells)

-- the page of the first segment
abbrev pub first_page : ℕ
first_page = 0x100

unfoldable pub pages_of : List Object → List (ℕ × List Cell)
pages_of objects = pages_from (page_count objects) first_page (cells_of objects)

-- 2. Slots.

-- the word that a register begins with
abbrev pub word_of : List Site → Object → Value → Word
word_of sites o (value.Int n) = Int n
word_of sites o (value.Ptr perm target) = Ptr (pointer_to sites o perm target)

-- the slot of a thread, which runs and has taken no turn
unfoldable pub slot_of : List Site → Object → Thread → Slot
slot_of sites o t = record {
  number = t.slot;
  group = t.group;
  handler = t.handler;
  regs = map (word_of sites o) t.regs;
  ip = pointer_to sites o t.perm t.target;
  past = false;
  turns = 0;
  state = Running;
  empty = none_empty;
  pending = [];
}

abbrev pub object_slots : List Site → Object → List Slot
object_slots sites o = map (slot_of sites o) o.threads

-- slots by rising number
abbrev pub by_number : List Slot → List Slot
by_number slots = flat_map (λ n. filter (λ (s : Slot). s.number == n) slots) slot_numbers

unfoldable pub slots_of : List Object → List Slot
slots_of objects = by_number (flat_map (object_slots (sites_of objects)) objects)

-- 3. The whole.

unfoldable pub image_of : List Object → Image
image_of objects =
    record {
      version = 1;
      split = false;
      slots = slots_of objects;
      memory = record { pages = pages_of objects; frames = frames_of objects };
    }

-- objects link to an image: they have no fault, and it is their image
pub record Linked (objects : List Object) (i : Image) : Type 0 where
  pub clean : link_fault objects ≡ None
  pub image : i ≡ image_of objects
