-- The states of a run.
use Rattle.std.specs.{Prelude.{◌≡◌, ℕ, ◌+◌, ◌≤◌, ◌⊎◌, true, List, length, Some}, List.AllByRecursion}
use Rattle.mm_model.specs.{declared.event.Event.Event, Slot.Slot, State.{State, slot_at, queue_at}}
use Rattle.mm_model.specs.{Image.{Image, start}, Spelling.IsImage, Turn.is_running, Run.{after, run}}
use Rattle.mm_model.specs.Fits.{is_waiting, events_of, IsState, Fits, EventsAreAtSlots, IsConsistent, TurnsWithin}

-- 1. The start, a turn and a run.

-- the machine's start is a state and fits its image, and no slot has taken a turn
abbrev pub StartsFit : Type 0
StartsFit = (i : Image) → IsImage i → IsState (start i) × Fits i (start i) × TurnsWithin (start i)

-- the machine's start keeps the invariants of a machine's types
abbrev pub StartsAreConsistent : Type 0
StartsAreConsistent = (i : Image) → IsImage i → IsConsistent (start i).core

-- a turn, of any item, leaves a state, also if that does not fit an image
abbrev pub TurnsKeepStates : Type 0
TurnsKeepStates = (s : State) (n : ℕ) → IsState s → IsState (after s n)

-- a turn keeps a state that fits an image
abbrev pub TurnsKeepFit : Type 0
TurnsKeepFit = (i : Image) (s : State) (n : ℕ) → IsImage i → IsState s → Fits i s → Fits i (after s n)

-- a turn keeps the invariants of the types, in a state that fits an image
abbrev pub TurnsKeepTypes : Type 0
TurnsKeepTypes =
    (i : Image) (s : State) (n : ℕ) → IsImage i → IsState s → Fits i s → IsConsistent s.core → IsConsistent (after s n).core

-- a turn keeps the bound: no slot has taken more turns than there were cycles
abbrev pub TurnsKeepBound : Type 0
TurnsKeepBound = (i : Image) (s : State) (n : ℕ) → IsState s → Fits i s → TurnsWithin s → TurnsWithin (after s n)

-- the turns of a slot after a cycle: they stay, or they rise by one if it is the running slot that the item names
pub record CountsTurns (s : State) (n k : ℕ) (now : Slot) : Type 0 where
  pub was : Slot
  pub stands : slot_at s.core k ≡ Some was
  pub turns : (now.turns ≡ was.turns) ⊎ ((k ≡ n) × (is_running was.state ≡ true) × (now.turns ≡ was.turns + 1))

-- only the running slot that an item names takes a turn
abbrev pub OneSlotTakesTurns : Type 0
OneSlotTakesTurns = (i : Image) (s : State) (n k : ℕ) (now : Slot) → IsState s → Fits i s
    → slot_at (after s n).core k ≡ Some now → CountsTurns s n k now

-- the state after any list of items fits the image
abbrev pub RunsFit : Type 0
RunsFit = (i : Image) (items : List ℕ) → IsImage i → IsState (run (start i) items) × Fits i (run (start i) items)

-- the state after any list of items keeps the invariants of a machine's types
abbrev pub RunsAreConsistent : Type 0
RunsAreConsistent = (i : Image) (items : List ℕ) → IsImage i → IsConsistent (run (start i) items).core

-- after any list of items no slot has taken more turns than there were cycles
abbrev pub RunsKeepBound : Type 0
RunsKeepBound = (i : Image) (items : List ℕ) → IsImage i → TurnsWithin (run (start i) items)

-- 2. Waiting slots and queued events.

-- the slot of an event is there and waits for the owner of the queue
pub record WaitsFor (s : State) (h : ℕ) (e : Event) : Type 0 where
  pub of : Slot
  pub stands : slot_at s.core e.slot ≡ Some of
  pub waiting : is_waiting of.state ≡ true
  pub handler : of.handler ≡ Some h

-- in a state that fits an image, each queued event is of a slot that waits for the queue's owner
abbrev pub QueuedSlotsWait : Type 0
QueuedSlotsWait = (i : Image) (s : State) → Fits i s → (h : ℕ) → AllByRecursion (WaitsFor s h) (queue_at s.core h)

-- the slot's instruction pointer is that of the event
pub record WaitsAt (s : State) (h : ℕ) (e : Event) : Type 0 where
  pub waits : WaitsFor s h e
  pub ip : e.ip ≡ waits.of.ip

-- queued slots have the instruction pointers of their events, if all events have those of their slots
abbrev pub QueuedSlotsStand : Type 0
QueuedSlotsStand = (i : Image) (s : State) → Fits i s → EventsAreAtSlots s.core → (h : ℕ)
    → AllByRecursion (WaitsAt s h) (queue_at s.core h)

-- the slot has a handler, in whose queue it has exactly one event
pub record IsQueued (s : State) (x : Slot) : Type 0 where
  pub handler : ℕ
  pub has : x.handler ≡ Some handler
  pub one : events_of x.number (queue_at s.core handler) ≡ 1

-- each slot that waits is queued
abbrev pub WaitingSlotsAreQueued : Type 0
WaitingSlotsAreQueued = (i : Image) (s : State) → Fits i s → (n : ℕ) (x : Slot) → slot_at s.core n ≡ Some x
    → is_waiting x.state ≡ true → IsQueued s x

-- 3. Short lists.

-- no queue is longer than the count of slots that there can be
abbrev pub QueuesAreShort : Type 0
QueuesAreShort = (i : Image) (s : State) → IsState s → Fits i s → (h : ℕ) → length (queue_at s.core h) ≤ 64

-- no more loads are pending than a slot has registers
abbrev pub PendingIsShort : Type 0
PendingIsShort = (i : Image) (s : State) → IsState s → Fits i s → (n : ℕ) (x : Slot) → slot_at s.core n ≡ Some x
    → length x.pending ≤ 16
