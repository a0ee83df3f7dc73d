-- Worked examples of the bytes of an image's records: each field of a record has a value of its own, so a table that
-- had two of them in the other order would spell other bytes.
use Rattle.std.specs.Prelude.{◌≡◌, ℕ, true, false, List, [], ◌∷◌, ◌++◌, replicate, codes, Some, None}
use Rattle.mm_word.specs.declared.{word.Word.TheVariants.{Int, Ptr}, perm.Perm.TheVariants.{Xu, Xp}}
use Rattle.mm_model.specs.{declared.slot.SlotState.TheVariants.Halted, Slot.Slot, Image.none_empty}
use Rattle.mm_format.specs.{Headers.header, Images.{slot_record, page_record}}
use Rattle.mm_examples.specs.Images.{pointer, full_int}

-- the bytes of the pointer p3300000000100008
abbrev pub pointer_bytes : List ℕ
pointer_bytes = 0x33 ∷ 0 ∷ 0 ∷ 0 ∷ 0 ∷ 0x10 ∷ 0 ∷ 8 ∷ []

-- a slot that is halted, with an integer in register 0 and a pointer in register 1
abbrev pub halted_slot : Slot
halted_slot = record {
  number = 3;
  group = 4;
  handler = Some 5;
  regs = Int 9 ∷ Ptr (pointer Xu 12 0x100008) ∷ replicate 14 (Int 0);
  ip = pointer Xp 12 0x100010;
  past = false;
  turns = 0;
  state = Halted None;
  empty = none_empty;
  pending = [];
}

-- version, count of slots, frames, count of pages, mode
abbrev pub SpellsImageHeaders : Type 0
SpellsImageHeaders =
    header.spell (record { version = 2; slots = 3; frames = 0x405; pages = 6; split = true })
    ≡ codes "MMI1" ++ (0 ∷ 2 ∷ 0 ∷ 3 ∷ 4 ∷ 5 ∷ 0 ∷ 6 ∷ 0 ∷ 0 ∷ 0 ∷ 1 ∷ [])

-- number, group, handler, state, instruction pointer, tags, registers
abbrev pub SpellsSlots : Type 0
SpellsSlots =
    slot_record halted_slot
    ≡ (3 ∷ 4 ∷ 5 ∷ 1 ∷ 0x43 ∷ 0 ∷ 0 ∷ 0 ∷ 0 ∷ 0x10 ∷ 0 ∷ 0x10 ∷ 0 ∷ 2 ∷ [])
    ++ (0 ∷ 0 ∷ 0 ∷ 0 ∷ 0 ∷ 0 ∷ 0 ∷ 9 ∷ []) ++ pointer_bytes ++ replicate 112 0

-- number, tags, full bits, words: the first word is a pointer and empty, the second an integer and full
abbrev pub SpellsPages : Type 0
SpellsPages =
    page_record (
      0x102,
      record { word = Ptr (pointer Xu 12 0x100008); full = false }
          ∷ full_int 9
          ∷ replicate 510 (record { word = Int 0; full = false }),
    )
    ≡ (0 ∷ 0 ∷ 0 ∷ 0 ∷ 0 ∷ 0 ∷ 1 ∷ 2 ∷ [])
    ++ (1 ∷ replicate 63 0)
    ++ (2 ∷ replicate 63 0)
    ++ pointer_bytes
    ++ (0 ∷ 0 ∷ 0 ∷ 0 ∷ 0 ∷ 0 ∷ 0 ∷ 9 ∷ replicate 4080 0)
