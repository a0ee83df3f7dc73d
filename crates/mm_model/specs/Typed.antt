-- What the types of slots and pages keep.
use Rattle.std.specs.{Prelude.{◌≡◌, ℕ, Bool, true, List, length}, List.AllByRecursion}
use Rattle.mm_word.specs.{declared.word.{Word.Word, Cell.Cell}, Perm.can_fetch, Pointer.{Pointer, IsWellFormed}}
use Rattle.mm_word.specs.Word.{IsWord}
use Rattle.mm_model.specs.{declared.slot.Pending.Pending, Memory.IsPage, Slot.Slot, Spelling.HoldsWords}

-- an instruction pointer, registers, flags and pending loads that a slot can have
pub record AreSlotParts (ip : Pointer) (regs : List Word) (empty : List Bool) (pending : List Pending) : Type 0 where
  pub executable : can_fetch ip.perm ≡ true
  pub well_formed : IsWellFormed ip
  pub registers : length regs ≡ 16
  pub words : AllByRecursion IsWord regs
  pub flags : length empty ≡ 16
  pub loads : AllByRecursion (λ (p : Pending). IsWord p.word) pending

abbrev pub IsTypedSlot : Slot → Type 0
IsTypedSlot s = AreSlotParts s.ip s.regs s.empty s.pending

-- a whole page whose cells hold words
pub record IsTypedPage (page : ℕ × List Cell) : Type 0 where
  pub whole : IsPage page
  pub words : HoldsWords page
