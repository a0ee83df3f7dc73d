-- The lines of slots, cells and pages.
use Rattle.std.specs.Prelude.{ℕ, zero, suc, ◌+◌, ◌/◌, Bool, true, false, ◌==◌, if◌then◌else◌, List, [], ◌∷◌, ◌++◌}
use Rattle.std.specs.{Prelude.{length, take, drop, codes, decimal, Some, None}, List.{flat_map, range_with_len}}
use Rattle.mm_word.specs.{declared.word.{Word.{Word, TheVariants.{Int, Ptr}}, Cell.Cell}, Cause.number_of}
use Rattle.mm_word.specs.Word.{word_bits}
use Rattle.mm_model.specs.declared.slot.SlotState.{SlotState, TheVariants.{Running, Waiting, Taken, Halted}}
use Rattle.mm_model.specs.{declared.slot.Pending.Pending, Digits.hex, Slot.{Slot, register, is_empty}}

abbrev pub newline : List ℕ
newline = 10 ∷ []

-- the text of a word: `i` or `p`, and the 64 bits in 16 digits
abbrev pub word_text : Word → List ℕ
word_text (Int bits) = codes "i" ++ hex 16 bits
word_text (Ptr p) = codes "p" ++ hex 16 (word_bits (Ptr p))

-- the state of a slot, with the number of the fault that halted it
abbrev pub state_text : SlotState → List ℕ
state_text Running = codes "running"
state_text Waiting = codes "waiting"
state_text Taken = codes "taken"
state_text (Halted None) = codes "halted"
state_text (Halted (Some cause)) = codes "faulted " ++ decimal (number_of cause)

-- the end of a slot's line, which says whether the instruction pointer is past its segment
abbrev pub past_text : Bool → List ℕ
past_text true = codes " past\n"
past_text false = newline

abbrev pub numbers_text : ℕ → ℕ → List ℕ
numbers_text number turns = codes "slot " ++ decimal number ++ codes " turns " ++ decimal turns ++ codes " "

-- the line of a slot: its number, turns, state and instruction pointer
abbrev pub slot_line : Slot → List ℕ
slot_line s =
    numbers_text s.number s.turns ++ state_text s.state ++ codes " ip " ++ word_text (Ptr s.ip) ++ past_text s.past

abbrev pub is_zero : Word → Bool
is_zero (Int bits) = bits == 0
is_zero (Ptr p) = false

-- the line of a register that holds a word; none for integer 0
abbrev pub word_line : ℕ → Word → List ℕ
word_line r w = if is_zero w then [] else codes "r " ++ decimal r ++ codes " " ++ word_text w ++ newline

-- the line of a register; one that waits for a load has a line that says so
abbrev pub register_line : Slot → ℕ → List ℕ
register_line s r = if is_empty s r then codes "r " ++ decimal r ++ codes " empty\n" else word_line r (register s r)

abbrev pub pending_line : Pending → List ℕ
pending_line p = codes "pending " ++ decimal p.reg ++ codes " " ++ word_text p.word ++ newline

abbrev pub register_lines : Slot → List ℕ
register_lines s = flat_map (register_line s) (range_with_len 0 16)

-- all lines of a slot
unfoldable pub slot_lines : Slot → List ℕ
slot_lines s = slot_line s ++ register_lines s ++ flat_map pending_line s.pending

-- the text of bytes: two digits for each
abbrev pub bytes_text : List ℕ → List ℕ
bytes_text bytes = flat_map (hex 2) bytes

abbrev pub output_row : List ℕ → List ℕ
output_row bytes = codes "o " ++ bytes_text bytes ++ newline

-- `count` lines of up to 32 bytes each
abbrev pub output_rows : ℕ → List ℕ → List ℕ
output_rows zero bytes = []
output_rows (suc count) bytes = output_row (take 32 bytes) ++ output_rows count (drop 32 bytes)

-- the bytes that a group has put out, 32 on a line
abbrev pub output_lines : List ℕ → List ℕ
output_lines bytes = output_rows ((length bytes + 31) / 32) bytes

abbrev pub full_text : Bool → List ℕ
full_text true = codes " full"
full_text false = codes " empty"

-- the line of a cell at a word's address
abbrev pub cell_line : ℕ → Cell → List ℕ
cell_line w c = codes "cell " ++ hex 14 w ++ codes " " ++ word_text c.word ++ full_text c.full ++ newline
