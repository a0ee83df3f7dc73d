-- Slots by their indices in the table of rows.
use Rattle.std.specs.Prelude.{ℕ, ◌+◌, ◌*◌, false, List, [], ◌∷◌, slice_set, slice_index_or, Option, None, Some}
use Rattle.mm_word.specs.declared.{perm.Perm.TheVariants.Xu, word.Word.{Word, TheVariants.{Int, Ptr}}}
use Rattle.mm_word.specs.Cause.{number_of}
use Rattle.mm_model.specs.declared.{slot.{SlotState.TheVariants.Running, Pending.Pending}, event.Event.Event}
use Rattle.mm_model.specs.{Slot.Slot, State.{ThreadRow, Core}, Spelling.numbers_of, Fits.slots_of}

-- the slot past the end of the table
abbrev pub no_slot : Slot
no_slot = record {
  number = 0;
  group = 0;
  handler = None;
  regs = [];
  ip = record { perm = Xu; log = 0; addr = 0 };
  past = false;
  turns = 0;
  state = Running;
  empty = [];
  pending = [];
}

abbrev pub no_row : ThreadRow
no_row = record { slot = no_slot; queue = [] }

-- a slot without events
abbrev pub row_alone : Slot → ThreadRow
row_alone s = record { slot = s; queue = [] }

-- the row at an index
abbrev pub row_at : Core → ℕ → ThreadRow
row_at core slot_index = slice_index_or core.rows slot_index no_row

abbrev pub slot_in : Core → ℕ → Slot
slot_in core slot_index = (row_at core slot_index).slot

abbrev pub queue_in : Core → ℕ → List Event
queue_in core slot_index = (row_at core slot_index).queue

-- the core with this row at an index
abbrev pub with_row : Core → ℕ → ThreadRow → Core
with_row core slot_index row = record core { rows = slice_set core.rows slot_index row }

abbrev pub with_slot : Core → ℕ → Slot → Core
with_slot core slot_index s = with_row core slot_index (record (row_at core slot_index) { slot = s })

abbrev pub with_queue_in : Core → ℕ → List Event → Core
with_queue_in core slot_index q = with_row core slot_index (record (row_at core slot_index) { queue = q })

-- the numbers of the slots, in order
abbrev pub numbers_in : Core → List ℕ
numbers_in core = numbers_of (slots_of core)

-- the register of the oldest pending load
abbrev pub first_register : List Pending → Option ℕ
first_register [] = None
first_register (p ∷ ps) = Some p.reg

-- the words of an event in four registers from rd on
abbrev pub event_writes : ℕ → Event → List (ℕ × Word)
event_writes rd e = (rd, Int (number_of e.cause + 256 * e.slot)) ∷ (rd + 1, Ptr e.ip) ∷ (rd + 2, e.addr_op)
    ∷ (rd + 3, e.value_op) ∷ []
