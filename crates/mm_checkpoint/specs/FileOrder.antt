-- In which order the parts of a checkpoint's file and its faults come.
use Rattle.std.specs.Prelude.{◌≡◌, ℕ, nat_lt, if◌then◌else◌, List, [], ◌++◌, length, Option, Some, None}
use Rattle.std.specs.List.{flat_map}
use Rattle.mm_word.specs.declared.word.Cell.{Cell}
use Rattle.mm_model.specs.{Image.{Image, output_limit}, Spelling.IsImage}
use Rattle.mm_format.specs.{Formats.{Format, fault_in, first_late, each, Parsed.Got}, Images.{pages, page_record}}
use Rattle.mm_machine.specs.Snapshot.{Parts}
use Rattle.mm_checkpoint.specs.declared.{header.Header.Header, rows.SlotRow.SlotRow}
use Rattle.mm_checkpoint.specs.{Checkpoints.{IsCheckpoint, saved_of}, Reading.groups_of}
use Rattle.mm_checkpoint.specs.Format.{header, slot_row, waiting_in, front_from, queue_tests, output, spelling}
use Rattle.mm_checkpoint.specs.{Format.{header_of, slot_record, output_record}, Faults.first_fault}

-- the bytes of an image's checkpoint are those of its header, of the records of its slots, of its outputs and of its
-- pages, one after the other
abbrev pub PartsComeInOrder : Type 0
PartsComeInOrder =
    (i : Image) (p : Parts) (last : Option ℕ) → IsImage i → IsCheckpoint i p last
    → spelling i (saved_of p last)
    ≡ (header 0).spell (header_of (saved_of p last)) ++ flat_map (slot_record p.events) p.slots
    ++ flat_map output_record (saved_of p last).outputs ++ flat_map page_record p.pages

-- the records of an image's slots after a header
abbrev pub records : Image → Header → Format (List SlotRow)
records i h = each (slot_row i.split h.cycles) i.slots

-- the first place in a queue that is bad, after the last of these records
abbrev pub bad_place : Header → List SlotRow → Option (ℕ × ℕ)
bad_place h rows = first_late 0 (queue_tests (waiting_in (front_from h rows)) [] (waiting_in (front_from h rows)))

-- the outputs of an image's groups
abbrev pub outputs : Image → Format (List (ℕ × List ℕ))
outputs i = each (output (output_limit i.version)) (groups_of i.slots)

-- the bytes have this header, and these records of slots up to the place `next`
pub record ReadsSlots (i : Image) (bytes : List ℕ) (h : Header) (rows : List SlotRow) (next : ℕ) : Type 0 where
  pub at : ℕ
  pub front : (header i.memory.frames).read bytes 0 ≡ Got h at
  pub others : (records i h).read bytes at ≡ Got rows next

-- the first fault of a checkpoint's file, read against an image, is that of its header, if that has one; else that of
-- the records of the image's slots, where the header ends; else that of the places in queues; else that of the outputs,
-- where the records end; else that of the pages; and else a byte too many
pub record FaultsComeInOrder (i : Image) (bytes : List ℕ) : Type 0 where
  pub of_header : (f : ℕ × ℕ) → fault_in ((header i.memory.frames).read bytes 0) ≡ Some f → first_fault i bytes ≡ Some f
  pub of_records : (h : Header) (at : ℕ) → (header i.memory.frames).read bytes 0 ≡ Got h at → (f : ℕ × ℕ)
      → fault_in ((records i h).read bytes at) ≡ Some f → first_fault i bytes ≡ Some f
  pub of_places : (h : Header) (rows : List SlotRow) (next : ℕ) → ReadsSlots i bytes h rows next → (f : ℕ × ℕ)
      → bad_place h rows ≡ Some f → first_fault i bytes ≡ Some f
  pub of_outputs : (h : Header) (rows : List SlotRow) (next : ℕ) → ReadsSlots i bytes h rows next
      → bad_place h rows ≡ None → (f : ℕ × ℕ)
      → fault_in ((outputs i).read bytes next) ≡ Some f → first_fault i bytes ≡ Some f
  pub of_pages : (h : Header) (rows : List SlotRow) (next : ℕ) → ReadsSlots i bytes h rows next
      → bad_place h rows ≡ None → (some : List (ℕ × List ℕ)) (after : ℕ)
      → (outputs i).read bytes next ≡ Got some after → (f : ℕ × ℕ)
      → fault_in ((pages h.pages).read bytes after) ≡ Some f → first_fault i bytes ≡ Some f
  pub of_end : (h : Header) (rows : List SlotRow) (next : ℕ) → ReadsSlots i bytes h rows next
      → bad_place h rows ≡ None → (some : List (ℕ × List ℕ)) (after : ℕ)
      → (outputs i).read bytes next ≡ Got some after → (all : List (ℕ × List Cell)) (end : ℕ)
      → (pages h.pages).read bytes after ≡ Got all end
      → first_fault i bytes ≡ (if nat_lt end (length bytes) then Some (13, end) else None)
