-- A swept image: none of its registers and cells holds a pointer whose segment meets a range of addresses. A range is a
-- segment of at least a word, given by its base and the logarithm of its length.
use Rattle.std.specs.Prelude.{ℕ, ◌≤◌, ◌<◌, Bool, false, ◌&&◌, nat_lt, if◌then◌else◌, List, map}
use Rattle.mm_word.specs.{declared.word.{Word.{Word, TheVariants.{Int, Ptr}}, Cell.Cell}, Pointer.{Pointer, base_of}}
use Rattle.mm_seg.specs.Segments.{end_of}
use Rattle.mm_model.specs.{Memory.Memory, Slot.Slot, Image.Image}

-- an address of the range
abbrev pub InRange : ℕ × ℕ → ℕ → Type 0
InRange range a = (range.0 ≤ a) × (a < end_of range)

-- the segment of a pointer, of any permission and length, meets the range
abbrev pub meets : ℕ × ℕ → Pointer → Bool
meets range p = nat_lt (base_of p) (end_of range) && nat_lt range.0 (end_of (base_of p, p.log))

-- a word is a pointer whose segment meets the range
abbrev pub word_meets : ℕ × ℕ → Word → Bool
word_meets range (Int bits) = false
word_meets range (Ptr p) = meets range p

-- the word, or integer 0 if it is a pointer whose segment meets the range
abbrev pub swept_word : ℕ × ℕ → Word → Word
swept_word range word = if word_meets range word then Int 0 else word

abbrev pub swept_slot : ℕ × ℕ → Slot → Slot
swept_slot range s = record s { regs = map (swept_word range) s.regs }

-- the cell with its word swept; its synchronisation bit stays
abbrev pub swept_cell : ℕ × ℕ → Cell → Cell
swept_cell range c = record c { word = swept_word range c.word }

abbrev pub swept_page : ℕ × ℕ → ℕ × List Cell → ℕ × List Cell
swept_page range page = (page.0, map (swept_cell range) page.1)

abbrev pub swept_memory : ℕ × ℕ → Memory → Memory
swept_memory range m = record m { pages = map (swept_page range) m.pages }

-- the image in which each register and each cell that holds a pointer whose segment meets the range holds integer 0
abbrev pub swept : ℕ × ℕ → Image → Image
swept range i = record i { slots = map (swept_slot range) i.slots; memory = swept_memory range i.memory }
