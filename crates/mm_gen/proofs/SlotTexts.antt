-- The texts of slots, as code goes over them.
use Rattle.std.{proofs.Common.{◌≡◌, ℕ, List, [], ◌∷◌, ◌++◌, map, length, codes, decimal, refl, ap}, specs.List.flat_map}
use Rattle.mm_word.specs.declared.word.Word.{Word}
use Rattle.mm_model.specs.{Lines.{newline, numbers_text, state_text, word_text}, Slot.{Slot, register}}
use Rattle.mm_model.specs.{State.{ThreadRow, Core, output_of}, Fits.slots_of}
use Rattle.mm_gen.specs.Summary.{slot_summary}

row_texts : (core : Core) (rows : List ThreadRow) → flat_map (slot_summary core) (map (λ row. row.slot) rows) ≡ flat_map (λ (row : ThreadRow). slot_summary core row.slot) rows
row_texts core [] = refl
row_texts core (row ∷ rows) = ap (λ (text : List ℕ). slot_summary core row.slot ++ text) (row_texts core rows)

-- the texts of the slots are those of the rows
pub slot_texts : (core : Core) → flat_map (slot_summary core) (slots_of core) ≡ flat_map (λ (row : ThreadRow). slot_summary core row.slot) core.rows
slot_texts core = row_texts core core.rows

-- the text of a slot, from its parts
pub summary_text : (core : Core) (s t : Slot) (bytes : List ℕ) (word : Word) → s ≡ t → bytes ≡ output_of core s.group → word ≡ register t 3
    → numbers_text s.number s.turns ++ state_text s.state ++ codes " out " ++ decimal (length bytes) ++ codes " xor " ++ word_text word ++ newline ≡ slot_summary core t
summary_text core s t bytes word es eb ew = rw (ew, eb, es) refl
