-- The summary of a machine.
use Rattle.std.specs.{Prelude.{ℕ, List, ◌++◌, length, codes, decimal}, List.flat_map}
use Rattle.mm_model.specs.{Lines.{newline, numbers_text, state_text, word_text}, Slot.{Slot, register}}
use Rattle.mm_model.specs.{State.{ThreadRow, Core, State, output_of}, Report.cycles_line}

-- the line of a slot: its turns and state, the count of bytes that its group has put out, and its register 3
abbrev pub slot_summary : Core → Slot → List ℕ
slot_summary core s =
    numbers_text s.number s.turns ++ state_text s.state ++ codes " out " ++ decimal (length (output_of core s.group))
    ++ codes " xor " ++ word_text (register s 3) ++ newline

-- the summary: the total of cycles, and a line for each slot
unfoldable pub summary : State → List ℕ
summary s = cycles_line s.cycles ++ flat_map (λ (row : ThreadRow). slot_summary s.core row.slot) s.core.rows
