-- The state of a machine.
use Rattle.std.specs.Prelude.{ℕ, Bool, ◌==◌, if◌then◌else◌, List, [], ◌∷◌, map, slice_set, slice_index_or, Option, Some}
use Rattle.std.specs.Prelude.{None}
use Rattle.mm_model.specs.{declared.event.Event.Event, Memory.Memory, Slot.Slot}

-- a slot, and the events that it has still to handle, oldest first
pub record ThreadRow : Type 0 where
  pub slot : Slot
  pub queue : List Event

-- the slots with their queues, ascending by number, what each group has put out, and what the image says of the machine
pub record Core : Type 0 where
  pub rows : List ThreadRow
  pub outputs : List (List ℕ)
  pub version : ℕ
  pub split : Bool

pub record State : Type 0 where
  pub core : Core
  pub memory : Memory
  pub cycles : ℕ

-- the row of a slot's number
abbrev pub row_in : List ThreadRow → ℕ → Option ThreadRow
row_in [] n = None
row_in (row ∷ rows) n = if row.slot.number == n then Some row else row_in rows n

abbrev pub slot_of : Option ThreadRow → Option Slot
slot_of None = None
slot_of (Some row) = Some row.slot

abbrev pub queue_of : Option ThreadRow → List Event
queue_of None = []
queue_of (Some row) = row.queue

-- the slot of a number, if there is one
unfoldable pub slot_at : Core → ℕ → Option Slot
slot_at core n = slot_of (row_in core.rows n)

-- the events that the slot of a number has still to handle
unfoldable pub queue_at : Core → ℕ → List Event
queue_at core n = queue_of (row_in core.rows n)

abbrev pub at_number : ℕ → (ThreadRow → ThreadRow) → ThreadRow → ThreadRow
at_number n change row = if row.slot.number == n then change row else row

-- the core with this slot in place of the slot of its number
unfoldable pub put_slot : Core → Slot → Core
put_slot core s = record core { rows = map (at_number s.number (λ row. record row { slot = s })) core.rows }

-- the core with this queue at the slot of a number
unfoldable pub put_queue : Core → ℕ → List Event → Core
put_queue core n q = record core { rows = map (at_number n (λ row. record row { queue = q })) core.rows }

-- what a group has put out
unfoldable pub output_of : Core → ℕ → List ℕ
output_of core g = slice_index_or core.outputs g []

unfoldable pub put_output : Core → ℕ → List ℕ → Core
put_output core g bytes = record core { outputs = slice_set core.outputs g bytes }
