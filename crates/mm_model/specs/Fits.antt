-- What a state is, when it fits an image, and what else the types of a machine keep.
use Rattle.std.specs.Prelude.{◌≡◌, ◌≢◌, ℕ, ◌+◌, ◌<◌, ◌≤◌, Bool, true, false, ◌==◌, if◌then◌else◌, List, [], ◌∷◌, map}
use Rattle.std.specs.{Prelude.{length, Option, None, Some, IfSome}, List.{AllByRecursion, Sorted.IsStrictlyIncreasing}}
use Rattle.mm_word.specs.{Perm.can_fetch, Pointer.IsWellFormed, Word.IsWord, declared.word.Word.TheVariants.Int}
use Rattle.mm_model.specs.declared.slot.{SlotState.{SlotState, TheVariants.Waiting}, Pending.Pending}
use Rattle.mm_model.specs.{declared.event.Event.Event, Flags.one_if, Memory.ArePages, Slot.{Slot, register, is_empty}}
use Rattle.mm_model.specs.State.{ThreadRow, Core, State, slot_at, queue_at, output_of}
use Rattle.mm_model.specs.{Image.{Image, slot_limit, output_limit}, Groups.has_group}
use Rattle.mm_model.specs.{Spelling.{numbers_of, IsOther, HoldsWords}, Turn.{is_handler, is_taken}}

-- 1. What a state is at all, whatever the image.

-- a slot with one of 64 numbers, an executable instruction pointer, 16 registers and 16 flags
pub record IsSlot (s : Slot) : Type 0 where
  pub number : s.number < 64
  pub executable : can_fetch s.ip.perm ≡ true
  pub registers : length s.regs ≡ 16
  pub flags : length s.empty ≡ 16

abbrev pub slots_of : Core → List Slot
slots_of core = map (λ row. row.slot) core.rows

-- a core with its slots by rising number, and with the outputs of 64 groups
pub record IsFormed (core : Core) : Type 0 where
  pub rising : IsStrictlyIncreasing (numbers_of (slots_of core))
  pub slots : AllByRecursion IsSlot (slots_of core)
  pub outputs : length core.outputs ≡ 64

-- No pointer is malformed.

pub record SlotHoldsWords (s : Slot) : Type 0 where
  pub registers : AllByRecursion IsWord s.regs
  pub ip : IsWellFormed s.ip
  pub pending : AllByRecursion (λ (p : Pending). IsWord p.word) s.pending

pub record EventHoldsWords (e : Event) : Type 0 where
  pub ip : IsWellFormed e.ip
  pub address : IsWord e.addr_op
  pub value : IsWord e.value_op

pub record RowHoldsWords (row : ThreadRow) : Type 0 where
  pub slot : SlotHoldsWords row.slot
  pub events : AllByRecursion EventHoldsWords row.queue

-- a state of slots, outputs and whole pages, which hold words
pub record IsState (s : State) : Type 0 where
  pub core : IsFormed s.core
  pub rows : AllByRecursion RowHoldsWords s.core.rows
  pub pages : ArePages s.memory.pages
  pub cells : AllByRecursion HoldsWords s.memory.pages

-- 2. When a state fits an image.

-- the count of pending loads for a register
abbrev pub loads_for : ℕ → List Pending → ℕ
loads_for r [] = 0
loads_for r (p ∷ ps) = if p.reg == r then loads_for r ps + 1 else loads_for r ps

-- each empty register waits for one pending load, and no other register for any
pub record LoadsMatch (s : Slot) : Type 0 where
  pub each : (r : ℕ) → loads_for r s.pending ≡ one_if (is_empty s r)

-- the count of events of a slot
abbrev pub events_of : ℕ → List Event → ℕ
events_of n [] = 0
events_of n (e ∷ es) = if e.slot == n then events_of n es + 1 else events_of n es

abbrev pub is_waiting : SlotState → Bool
is_waiting Waiting = true
is_waiting _ = false

-- the slot waits for this handler
abbrev pub waits_for : ℕ → Option Slot → Bool
waits_for h None = false
waits_for h (Some s) = if is_waiting s.state then is_handler h s.handler else false

-- a slot that waits has a handler
abbrev pub WaitsForSome : Slot → Type 0
WaitsForSome s = is_waiting s.state ≡ true → s.handler ≢ None

-- waiting slots and queued events match one to one, each event in the queue of its slot's handler; empty registers and
-- pending loads match one to one
pub record Matches (core : Core) : Type 0 where
  pub events : (n h : ℕ) → events_of n (queue_at core h) ≡ one_if (waits_for h (slot_at core n))
  pub waiting : AllByRecursion WaitsForSome (slots_of core)
  pub loads : AllByRecursion LoadsMatch (slots_of core)

-- what never changes of a slot
abbrev pub identity_of : Slot → ℕ × ℕ × Option ℕ
identity_of s = (s.number, s.group, s.handler)

-- The numbers, groups and handlers of the slots, the number of frames, the version and the mode are the image's, no
-- more pages are mapped than there are frames, and slots match their events and loads.
pub record Fits (i : Image) (s : State) : Type 0 where
  pub same_slots : map identity_of (slots_of s.core) ≡ map identity_of i.slots
  pub version : s.core.version ≡ i.version
  pub split : s.core.split ≡ i.split
  pub frames : s.memory.frames ≡ i.memory.frames
  pub mapped : length s.memory.pages ≤ s.memory.frames
  pub matched : Matches s.core

-- 3. What else the types of a machine keep.

-- an event has the instruction pointer of its slot
abbrev pub IsAtSlot : Core → Event → Type 0
IsAtSlot core e = IfSome (slot_at core e.slot) (λ s. e.ip ≡ s.ip)

abbrev pub EventsAreAtSlots : Core → Type 0
EventsAreAtSlots core = (h : ℕ) → AllByRecursion (IsAtSlot core) (queue_at core h)

-- an empty register holds integer 0, and no load is pending in a plain machine
pub record LoadsAreConsistent (split : Bool) (s : Slot) : Type 0 where
  pub zero : (r : ℕ) → is_empty s r ≡ true → register s r ≡ Int 0
  pub mode : split ≡ false → s.pending ≡ []

-- a taken slot has a handler
abbrev pub TakenBySome : Slot → Type 0
TakenBySome s = is_taken s.state ≡ true → s.handler ≢ None

pub record IsConsistent (core : Core) : Type 0 where
  pub in_place : EventsAreAtSlots core
  pub loads : AllByRecursion (LoadsAreConsistent core.split) (slots_of core)
  pub taken : AllByRecursion TakenBySome (slots_of core)
  -- no output is above the version's limit, and a group without a slot has put out nothing
  pub within : AllByRecursion (λ bytes. length bytes ≤ output_limit core.version) core.outputs
  pub silent : (g : ℕ) → has_group (slots_of core) g ≡ false → output_of core g ≡ []

-- 4. A core by itself, with no image to fit.

-- the number and the group of a slot are in the limits of this version
pub record IsOfVersion (version : ℕ) (s : Slot) : Type 0 where
  pub number : s.number < slot_limit version
  pub group : s.group < slot_limit version

-- each slot's handler is another slot
abbrev pub HandlersAreOthers : Core → Type 0
HandlersAreOthers core =
    AllByRecursion (λ (s : Slot). IfSome s.handler (IsOther (slots_of core) s.number)) (slots_of core)

-- what the slots, queues and outputs of a machine always are
pub record IsCore (core : Core) : Type 0 where
  pub formed : IsFormed core
  -- what an image of version 2, which has the greater limits, says of its slots
  pub numbers : AllByRecursion (IsOfVersion 2) (slots_of core)
  pub handlers : HandlersAreOthers core
  pub matched : Matches core
  pub kept : IsConsistent core

-- no slot has taken more turns than there were cycles
abbrev pub TurnsWithin : State → Type 0
TurnsWithin s = AllByRecursion (λ (slot : Slot). slot.turns ≤ s.cycles) (slots_of s.core)
