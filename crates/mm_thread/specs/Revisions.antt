-- A core with other slots, queues and outputs in place of some.
use Rattle.std.specs.Prelude.{ℕ, Bool, if◌then◌else◌, List, [], ◌∷◌, ◌++◌, map, take, Vec}
use Rattle.std.specs.declared.alloc.Global.{Global}
use Rattle.mm_model.specs.{declared.event.Event.Event, Slot.Slot, State.{ThreadRow, Core, output_of, put_output}}
use Rattle.mm_thread.specs.{declared.restore.Revision.Revision, SlotIndices.with_queue_in}

-- the rows with these slots, each if its flag is set
abbrev pub with_slots : List Bool → List Slot → List ThreadRow → List ThreadRow
with_slots (c ∷ changed) (s ∷ slots) (row ∷ rows) =
    (if c then record row { slot = s } else row) ∷ with_slots changed slots rows
with_slots _ _ rows = rows

-- the core with these queues, each at an index
abbrev pub with_queues : List (ℕ × List Event) → Core → Core
with_queues [] core = core
with_queues (x ∷ xs) core = with_queues xs (with_queue_in core x.0 x.1)

-- how many bytes of the output of a group stay, and those that come after them
pub record Extension : Type 0 where
  pub group : ℕ
  pub kept : ℕ
  pub bytes : List ℕ

-- the core with these outputs
abbrev pub with_outputs : List Extension → Core → Core
with_outputs [] core = core
with_outputs (x ∷ xs) core = with_outputs xs (put_output core x.group (take x.kept (output_of core x.group) ++ x.bytes))

abbrev pub queue_in_place : ℕ × Vec Event Global → ℕ × List Event
queue_in_place x = (x.0, x.1.items)

abbrev pub extension : ℕ × ℕ × Vec ℕ Global → Extension
extension x = record { group = x.0; kept = x.1; bytes = x.2.items }

abbrev pub queues_in : Revision → List (ℕ × List Event)
queues_in r = map queue_in_place r.queues.items

abbrev pub outputs_in : Revision → List Extension
outputs_in r = map extension r.outputs.items

-- the core with the slots whose flags are set, and with the queues and the outputs of a revision
unfoldable pub revised : Core → List Bool → List Slot → List (ℕ × List Event) → List Extension → Core
revised core changed slots queues outputs =
    with_outputs outputs (with_queues queues (record core { rows = with_slots changed slots core.rows }))
