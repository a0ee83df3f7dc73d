-- The image file as a format: a row of its table is a line. What its faults are:
--
--  1 short, at the end of the file: a field is not whole
--  2 magic
--  3 version
--  4 count: of slots, or the mode
--  5 order of slots
--  6 group
--  7 handler
--  8 state
--  9 pointer
-- 10 instruction pointer
-- 11 order of pages
-- 12 frames: of frames, or of pages
-- 13 trailing, at the first byte too many
use Rattle.std.specs.Prelude.{◌≡◌, ℕ, ◌+◌, ◌*◌, ◌^◌, Bool, not, ◌&&◌, ◌||◌, ◌==◌, nat_lt, nat_le, if◌then◌else◌, List}
use Rattle.std.specs.{Prelude.{[], ◌∷◌, map, length, Option, Some, None, false}, List.range_with_len}
use Rattle.mm_word.specs.{declared.word.{Word.{Word, TheVariants.{Int, Ptr}}, Cell.Cell}, Perm.can_fetch}
use Rattle.mm_word.specs.{Pointer.{Pointer, pointer_of, bits_of, spells_pointer}, Word.{word_bits, is_pointer}}
use Rattle.mm_model.specs.{declared.slot.SlotState.TheVariants.{Running, Halted}, Flags.{flags, number_of_flags}}
use Rattle.mm_model.specs.{Slot.Slot, Image.{Image, slot_limit, none_empty}, Bytes.bit_at}
use Rattle.mm_model.specs.Spelling.{IsImage, handler_byte, state_byte, bitmap, is_bad_handler}
use Rattle.mm_format.specs.declared.header.Header.{Header}
use Rattle.mm_format.specs.Formats.{Format, Late, byte, u16, u64, raw, test, late, part, done, ◌>>=◌, times, each, file}
use Rattle.mm_format.specs.{Formats.fault_in, Headers.header}

-- sixteen flags of a number
unfoldable pub flags_of : ℕ → List Bool
flags_of bits = flags 16 bits

-- sixteen flags in two bytes
unfoldable pub mask : Format (List Bool)
mask = do
  bits ← part number_of_flags u16
  done (flags_of bits)

-- the first bits of the bytes of a bitmap
unfoldable pub bits_in : (count : ℕ) (bytes : List ℕ) → List Bool
bits_in count bytes = map (bit_at bytes 0) (range_with_len 0 count)

-- a bitmap of this count of bytes
unfoldable pub bits : (size : ℕ) → Format (List Bool)
bits size = do
  bytes ← part (bitmap size) (raw size)
  done (bits_in (8 * size) bytes)

unfoldable pub word : (tagged : Bool) → Format Word
word tagged = do
  bits ← part word_bits (test u64 9 (λ n. tagged && not (spells_pointer n)))
  done (if tagged then Ptr (pointer_of bits) else Int bits)

-- an instruction pointer
unfoldable pub ip : Format Pointer
ip = do
  bits ← part bits_of (test u64 10 (λ n. not (spells_pointer n) || not (can_fetch (pointer_of n).perm)))
  done (pointer_of bits)

unfoldable pub slot : (limit least : ℕ) → Format Slot
slot limit least = do
  number ← part (λ s. s.number) (test byte 5 (λ n. nat_le limit n || nat_lt n least))
  group ← part (λ s. s.group) (test byte 6 (λ n. nat_le limit n))
  handler ← part (λ s. handler_byte s.handler) byte
  state ← part (λ s. state_byte s.state) (test byte 8 (λ n. nat_lt 1 n))
  ip ← part (λ s. s.ip) ip
  tags ← part (λ s. map is_pointer s.regs) mask
  regs ← part (λ s. s.regs) (each word tags)
  done (record {
    number = number;
    group = group;
    handler = if handler == 255 then None else Some handler;
    regs = regs;
    ip = ip;
    past = false;
    turns = 0;
    state = if state == 0 then Running else Halted None;
    empty = none_empty;
    pending = [];
  })

-- the words of a page and the flags of its cells
abbrev pub cells_of : List Word → List Bool → List Cell
cells_of [] full = []
cells_of (w ∷ words) [] = []
cells_of (w ∷ words) (b ∷ full) = record { word = w; full = b } ∷ cells_of words full

unfoldable pub page : (least : ℕ) → Format (ℕ × List Cell)
page least = do
  number ← part (λ p. p.0) (test u64 11 (λ n. nat_le (2 ^ 42) n || nat_lt n least))
  tags ← part (λ p. map (λ (c : Cell). is_pointer c.word) p.1) (bits 64)
  full ← part (λ p. map (λ (c : Cell). c.full) p.1) (bits 64)
  words ← part (λ p. map (λ (c : Cell). c.word) p.1) (each word tags)
  done (number, cells_of words full)

-- the handlers of slots, in the order of their records
abbrev pub handler_tests : (all : List Slot) (k : ℕ) → List Slot → List Late
handler_tests all k [] = []
handler_tests all k (s ∷ slots) =
    record { number = 7; offset = 142 * k + 2; bad = is_bad_handler all s } ∷ handler_tests all (k + 1) slots

unfoldable pub slots : (version count : ℕ) → Format (List Slot)
slots version count =
    late (times (slot (slot_limit version)) (λ _ s. s.number + 1) count 0) (λ all. handler_tests all 0 all)

abbrev pub pages : (count : ℕ) → Format (List (ℕ × List Cell))
pages count = times page (λ _ p. p.0 + 1) count 0

-- the counts of an image's header
abbrev pub header_in : Image → Header
header_in i = record {
  version = i.version;
  slots = length i.slots;
  frames = i.memory.frames;
  pages = length i.memory.pages;
  split = i.split;
}

unfoldable pub image : Format Image
image = do
  head ← part header_in header
  slots ← part (λ i. i.slots) (slots head.version head.slots)
  pages ← part (λ i. i.memory.pages) (pages head.pages)
  done (record {
    version = head.version;
    split = head.split;
    slots = slots;
    memory = record { pages = pages; frames = head.frames };
  })

-- the bytes of an image's file
abbrev pub spelling : Image → List ℕ
spelling i = image.spell i

-- the bytes of a slot's record and of a page's, which the limits of their numbers do not change
abbrev pub slot_record : Slot → List ℕ
slot_record s = (slot 0 0).spell s

abbrev pub page_record : ℕ × List Cell → List ℕ
page_record p = (page 0).spell p

-- the bytes spell the image
pub record Spells (bytes : List ℕ) (i : Image) : Type 0 where
  pub image : IsImage i
  pub spelled : bytes ≡ spelling i

-- the number and the place of the first fault of an image file, if there is one. Handlers are tested after the last
-- slot, since they may name later slots
unfoldable pub image_fault : List ℕ → Option (ℕ × ℕ)
image_fault bytes = fault_in (file image 13 bytes)
