-- Laws of the image file as a format.
use Rattle.std.specs.Prelude.{◌≡◌, ◌↔◌, ℕ, ◌+◌, nat_lt, if◌then◌else◌, List, length, Some, None}
use Rattle.mm_word.specs.declared.word.Cell.{Cell}
use Rattle.mm_model.specs.{Image.{Image, slot_limit}, Spelling.IsImage, Slot.Slot}
use Rattle.mm_format.specs.{declared.header.Header.Header, Formats.{fault_in, times, Parsed.Got}, Headers.header}
use Rattle.mm_format.specs.Images.{slot, slots, pages, image, image_fault}

-- the first fault of an image file is that of its header, if that has one; else that of the records of its slots, where
-- the header ends; else that of their handlers; else that of the pages, where the slots end; and else a byte too many
pub record FaultsComeInOrder (bytes : List ℕ) : Type 0 where
  pub of_header : (f : ℕ × ℕ) → fault_in (header.read bytes 0) ≡ Some f → image_fault bytes ≡ Some f
  pub of_records : (h : Header) (at : ℕ) → header.read bytes 0 ≡ Got h at → (f : ℕ × ℕ)
      → fault_in ((times (slot (slot_limit h.version)) (λ _ s. s.number + 1) h.slots 0).read bytes at) ≡ Some f
      → image_fault bytes ≡ Some f
  pub of_slots : (h : Header) (at : ℕ) → header.read bytes 0 ≡ Got h at → (f : ℕ × ℕ)
      → fault_in ((slots h.version h.slots).read bytes at) ≡ Some f → image_fault bytes ≡ Some f
  pub of_pages : (h : Header) (at : ℕ) → header.read bytes 0 ≡ Got h at → (all : List Slot) (next : ℕ)
      → (slots h.version h.slots).read bytes at ≡ Got all next → (f : ℕ × ℕ)
      → fault_in ((pages h.pages).read bytes next) ≡ Some f → image_fault bytes ≡ Some f
  pub of_end : (h : Header) (at : ℕ) → header.read bytes 0 ≡ Got h at → (all : List Slot) (next : ℕ)
      → (slots h.version h.slots).read bytes at ≡ Got all next → (some : List (ℕ × List Cell)) (end : ℕ)
      → (pages h.pages).read bytes next ≡ Got some end
      → image_fault bytes ≡ (if nat_lt end (length bytes) then Some (13, end) else None)

-- the values that have a spelling are the images
abbrev pub ImagesFit : Type 0
ImagesFit = (i : Image) → image.Fits i ↔ IsImage i
