-- A state of a machine, kept apart from the machine, without the frames of its memory.
use Rattle.std.specs.Prelude.{◌≡◌, ◌≢◌, ℕ, ◌+◌, ◌<◌, ◌≤◌, Bool, true, false, ◌==◌, List, [], length, map, slice_index}
use Rattle.std.specs.Prelude.{Option, Some, None, IsSomeAnd}
use Rattle.std.specs.List.{AllByRecursion, list_any, find, count_by, flat_map, Sorted.IsStrictlyIncreasing}
use Rattle.mm_word.specs.declared.word.{Word.TheVariants.Int, Cell.Cell}
use Rattle.mm_model.specs.{declared.{slot.SlotState.TheVariants.Taken, event.Event.Event}, Memory.IsPage}
use Rattle.mm_model.specs.{Slot.{Slot, register, is_empty}, State.{Core, State, queue_at, output_of}}
use Rattle.mm_model.specs.{Image.output_limit, Groups.has_group, Spelling.{numbers_of, HoldsWords}, Flags.one_if}
use Rattle.mm_model.specs.Fits.{is_waiting, waits_for, identity_of, slots_of, IsCore, EventHoldsWords}
use Rattle.mm_model.specs.Typed.{IsTypedSlot}
use Rattle.mm_thread.specs.{Output.Output, Parts.core_of}

-- the parts of a state
pub record Parts : Type 0 where
  pub slots : List Slot
  -- each event with the number of the slot in whose queue it is, in the order of the queue
  pub events : List (ℕ × Event)
  pub outputs : List Output
  pub pages : List (ℕ × List Cell)
  pub cycles : ℕ

abbrev pub parts_of : List Slot → List (ℕ × Event) → List Output → List (ℕ × List Cell) → ℕ → Parts
parts_of slots events outputs pages cycles
    = record { slots = slots; events = events; outputs = outputs; pages = pages; cycles = cycles }

abbrev pub queues_of : List (ℕ × Event) → List ℕ
queues_of events = map (λ x. x.0) events

abbrev pub groups_of : List Output → List ℕ
groups_of outputs = map (λ o. o.group) outputs

abbrev pub page_numbers : List (ℕ × List Cell) → List ℕ
page_numbers pages = map (λ p. p.0) pages

abbrev pub has_output : List Output → ℕ → Bool
has_output outputs g = list_any (λ o. o.group == g) outputs

-- the slot of a number, if there is one
abbrev pub numbered : List Slot → ℕ → Option Slot
numbered slots n = find (λ s. s.number == n) slots

-- the event is that of a slot that waits for the handler in whose queue the event is
pub record IsEventOf (queue : ℕ) (e : Event) (s : Slot) : Type 0 where
  pub waits : waits_for queue (Some s) ≡ true
  pub ip : e.ip ≡ s.ip

abbrev pub IsAwaited : List Slot → ℕ × Event → Type 0
IsAwaited slots x = IsSomeAnd (numbered slots x.1.slot) (IsEventOf x.0 x.1)

-- a waiting slot has one event, and no other slot has any
pub record HasOneEvent (events : List (ℕ × Event)) (s : Slot) : Type 0 where
  pub count : count_by (λ x. x.1.slot == s.number) events ≡ one_if (is_waiting s.state)

-- an empty register has one pending load and holds integer 0, and any other has none
pub record RegisterStands (s : Slot) (r : ℕ) : Type 0 where
  pub loads : count_by (λ p. p.reg == r) s.pending ≡ one_if (is_empty s r)
  pub zero : is_empty s r ≡ true → register s r ≡ Int 0

-- the pending loads match the empty registers one to one, and an empty register holds integer 0
abbrev pub IsPending : Slot → Type 0
IsPending s = (r : ℕ) → RegisterStands s r

-- no number is below the one before it
abbrev pub DoesNotFall : List ℕ → Type 0
DoesNotFall xs = (k : ℕ) → k + 1 < length xs → slice_index xs k ≤ slice_index xs (k + 1)

-- the conditions on the parts of a state
pub record IsSnapshot (p : Parts) : Type 0 where
  -- slots, groups and pages ascend strictly, and the groups are those of the slots
  pub slots : IsStrictlyIncreasing (numbers_of p.slots)
  pub groups : IsStrictlyIncreasing (groups_of p.outputs)
  pub pages : IsStrictlyIncreasing (page_numbers p.pages)
  pub used : AllByRecursion (λ (o : Output). has_group p.slots o.group ≡ true) p.outputs
  pub shown : AllByRecursion (λ (s : Slot). has_output p.outputs s.group ≡ true) p.slots
  -- no event is in the queue of a lesser slot than the event before it
  pub events : DoesNotFall (queues_of p.events)
  -- events and waiting slots match one to one, each event in the queue of its slot's handler and with its slot's
  -- instruction pointer
  pub awaited : AllByRecursion (IsAwaited p.slots) p.events
  pub one_event : AllByRecursion (HasOneEvent p.events) p.slots
  -- a taken slot has a handler
  pub taken : AllByRecursion (λ (s : Slot). s.state ≡ Taken → s.handler ≢ None) p.slots
  pub outputs : AllByRecursion (λ (o : Output). length o.bytes ≤ 65536) p.outputs
  pub pending : AllByRecursion IsPending p.slots
  -- no count of turns is above the count of cycles
  pub turns : AllByRecursion (λ (s : Slot). s.turns ≤ p.cycles) p.slots

-- What the types of slots, events and pages say of each one.

abbrev pub IsTypedEvent : ℕ × Event → Type 0
IsTypedEvent x = EventHoldsWords x.1

pub record IsTyped (p : Parts) : Type 0 where
  pub slots : AllByRecursion IsTypedSlot p.slots
  pub events : AllByRecursion IsTypedEvent p.events
  pub whole : AllByRecursion IsPage p.pages
  pub words : AllByRecursion HoldsWords p.pages

-- Snapshots and states.

-- the events of the queue of one slot, each with the slot's number
abbrev pub queued_at : Core → Slot → List (ℕ × Event)
queued_at core s = map (λ e. (s.number, e)) (queue_at core s.number)

-- the events of the queues, slot by slot
abbrev pub queued : Core → List (ℕ × Event)
queued core = flat_map (queued_at core) (slots_of core)

-- the output of a group is that of the core
abbrev pub IsOutputOf : Core → Output → Type 0
IsOutputOf core o = o.bytes ≡ output_of core o.group

-- the parts are a snapshot of this state: all of it except the frames
pub record IsSnapshotOf (s : State) (p : Parts) : Type 0 where
  pub rules : IsSnapshot p
  pub slots : p.slots ≡ slots_of s.core
  pub events : p.events ≡ queued s.core
  -- the groups are those of the slots
  pub outputs : AllByRecursion (IsOutputOf s.core) p.outputs
  pub pages : p.pages ≡ s.memory.pages
  pub cycles : p.cycles ≡ s.cycles

-- the conditions on a snapshot for a machine in a state
pub record CanRestore (s : State) (p : Parts) : Type 0 where
  -- the slots have the machine's numbers, groups and handlers
  pub slots : map identity_of p.slots ≡ map identity_of (slots_of s.core)
  -- no load is pending unless the machine is split
  pub mode : s.core.split ≡ false → AllByRecursion (λ (x : Slot). x.pending ≡ []) p.slots
  -- no output is above the machine's limit
  pub outputs : AllByRecursion (λ (o : Output). length o.bytes ≤ output_limit s.core.version) p.outputs
  -- there are no more pages than frames
  pub pages : length p.pages ≤ s.memory.frames

-- the state of a snapshot, with the version, the mode and the frames of this one
abbrev pub restored : State → Parts → State
restored s p = record {
  core = core_of s.core.version s.core.split p.slots p.events p.outputs;
  memory = record { pages = p.pages; frames = s.memory.frames };
  cycles = p.cycles;
}

-- a state of a machine of the same version, mode and frames
pub record IsAlike (s t : State) : Type 0 where
  pub version : t.core.version ≡ s.core.version
  pub split : t.core.split ≡ s.core.split
  pub frames : t.memory.frames ≡ s.memory.frames
  pub core : ∥ IsCore t.core ∥₁
