-- Slots, as contracts see them.
use Rattle.std.specs.Prelude.{ℕ, Bool, false, List, slice_index_or, Option}
use Rattle.mm_word.specs.{declared.word.Word.{Word, TheVariants.Int}, Pointer.Pointer}
use Rattle.mm_model.specs.declared.slot.{SlotState.SlotState, Pending.Pending}

pub record Slot : Type 0 where
  pub number : ℕ
  pub group : ℕ
  pub handler : Option ℕ
  pub regs : List Word
  pub ip : Pointer
  pub past : Bool
  pub turns : ℕ
  pub state : SlotState
  -- a flag for each register: whether it waits for a pending load
  pub empty : List Bool
  -- the pending loads, oldest first
  pub pending : List Pending

-- the word of a register
unfoldable pub register : Slot → ℕ → Word
register s r = slice_index_or s.regs r (Int 0)

-- a register waits for a pending load
unfoldable pub is_empty : Slot → ℕ → Bool
is_empty s r = slice_index_or s.empty r false
