-- The text of the holders of pointers whose segments meet a range.
use Rattle.std.specs.{Prelude.{ℕ, ◌+◌, ◌*◌, if◌then◌else◌, List, [], ◌∷◌, ◌++◌, codes, decimal}, List.flat_map}
use Rattle.mm_word.specs.declared.word.{Word.{Word, TheVariants.Ptr}, Cell.Cell}
use Rattle.mm_model.specs.{Digits.hex, Lines.{newline, word_text}, Slot.Slot, Image.Image}
use Rattle.mm_sweep.specs.Swept.{word_meets}

-- the line of a place and the pointer there, if its segment meets the range
abbrev pub holder_line : ℕ × ℕ → (place : List ℕ) → Word → List ℕ
holder_line range place word = if word_meets range word then place ++ codes " " ++ word_text word ++ newline else []

abbrev pub ip_place : ℕ → List ℕ
ip_place slot = codes "ip " ++ decimal slot

abbrev pub register_place : (slot register : ℕ) → List ℕ
register_place slot register = codes "reg " ++ decimal slot ++ codes " " ++ decimal register

abbrev pub cell_place : ℕ → List ℕ
cell_place address = codes "cell " ++ hex 14 address

-- the lines of a slot's registers, from a register on
abbrev pub register_holders : ℕ × ℕ → (slot register : ℕ) → List Word → List ℕ
register_holders range slot register [] = []
register_holders range slot register (word ∷ words) =
    holder_line range (register_place slot register) word ++ register_holders range slot (register + 1) words

-- the lines of a slot: its instruction pointer, and then its registers
abbrev pub slot_holders : ℕ × ℕ → Slot → List ℕ
slot_holders range s = holder_line range (ip_place s.number) (Ptr s.ip) ++ register_holders range s.number 0 s.regs

-- the lines of cells, from an address on
abbrev pub cell_holders : ℕ × ℕ → (address : ℕ) → List Cell → List ℕ
cell_holders range address [] = []
cell_holders range address (cell ∷ cells) = holder_line range (cell_place address) cell.word
    ++ cell_holders range (address + 8) cells

abbrev pub page_holders : ℕ × ℕ → ℕ × List Cell → List ℕ
page_holders range page = cell_holders range (page.0 * 4096) page.1

-- the holders of pointers whose segments meet the range: each slot, and then each cell, ascending
abbrev pub holders : ℕ × ℕ → Image → List ℕ
holders range i = flat_map (slot_holders range) i.slots ++ flat_map (page_holders range) i.memory.pages
