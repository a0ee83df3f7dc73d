-- What a turn leaves as it was.
use Rattle.std.specs.Prelude.{◌≡◌, ℕ, true, false, List, [], ◌∷◌, ◌++◌, Option, Some, None}
use Rattle.mm_word.specs.{declared.{cause.Cause.Cause, word.Cell.Cell}, Access.AccessValue}
use Rattle.mm_model.specs.declared.{event.Event.Event, step.Tick.{Tick, TheVariants.Faulted}}
use Rattle.mm_model.specs.Memory.{Memory, put_cell, is_mapped, can_map, map_page, unmap_page}
use Rattle.mm_model.specs.{Slot.Slot, State.{Core, State, slot_at, queue_at, output_of}, Image.Image, Counted.writes}
use Rattle.mm_model.specs.{Spelling.IsImage, Fits.{IsState, Fits}, Turn.{Turned, is_running}, Run.turn_of}

-- 1. Slots.

-- a slot that does not run, and that the slot `by` handles, may change, but for its count of turns
pub record IsServed (core later : Core) (by n : ℕ) : Type 0 where
  pub before : Slot
  pub after : Slot
  pub was : slot_at core n ≡ Some before
  pub is : slot_at later n ≡ Some after
  pub handler : before.handler ≡ Some by
  pub rests : is_running before.state ≡ false
  pub turns : after.turns ≡ before.turns

-- what a turn of the slot `by` makes of the slot of a number
pub data SlotLeft (core later : Core) (by n : ℕ) : Type 0 where
  Same : slot_at later n ≡ slot_at core n → SlotLeft core later by n
  Own : n ≡ by → SlotLeft core later by n
  Served : IsServed core later by n → SlotLeft core later by n

-- 2. Queues.

-- the oldest event is taken
pub record TakesOldest (core later : Core) (n : ℕ) : Type 0 where
  pub event : Event
  pub rest : List Event
  pub was : queue_at core n ≡ event ∷ rest
  pub is : queue_at later n ≡ rest

-- the slot `by` faults, and its handler's queue gets an event
pub record GetsEvent (core later : Core) (by : ℕ) (tick : Tick) (n : ℕ) : Type 0 where
  pub slot : Slot
  pub there : slot_at core by ≡ Some slot
  pub handler : slot.handler ≡ Some n
  pub cause : Cause
  pub faults : tick ≡ Faulted cause
  pub event : Event
  pub is : queue_at later n ≡ queue_at core n ++ event ∷ []

pub data QueueLeft (core later : Core) (by : ℕ) (tick : Tick) (n : ℕ) : Type 0 where
  Same : queue_at later n ≡ queue_at core n → QueueLeft core later by tick n
  Taken : n ≡ by → TakesOldest core later n → QueueLeft core later by tick n
  Added : GetsEvent core later by tick n → QueueLeft core later by tick n

-- 3. Outputs.

-- the group of the slot `by` puts a byte out
pub record PutsByte (core later : Core) (by g : ℕ) : Type 0 where
  pub slot : Slot
  pub there : slot_at core by ≡ Some slot
  pub group : slot.group ≡ g
  pub byte : ℕ
  pub is : output_of later g ≡ output_of core g ++ byte ∷ []

pub data OutputLeft (core later : Core) (by g : ℕ) : Type 0 where
  Same : output_of later g ≡ output_of core g → OutputLeft core later by g
  Put : PutsByte core later by g → OutputLeft core later by g

-- 4. Memory: it is the same, or one cell was written, or one page mapped or unmapped.

pub data MemoryLeft (m later : Memory) (touched : Option AccessValue) : Type 0 where
  Same : later ≡ m → MemoryLeft m later touched
  Written : (a : AccessValue) (c : Cell) → touched ≡ Some a → writes a.kind ≡ true → later ≡ put_cell m a.addr c → MemoryLeft m later touched
  Mapped : (page : ℕ) → can_map m page ≡ true → later ≡ map_page m page → MemoryLeft m later touched
  Unmapped : (page : ℕ) → is_mapped m page ≡ true → later ≡ unmap_page m page → MemoryLeft m later touched

-- 5. All of it.

pub record LeavesTheRest (core : Core) (m : Memory) (t : Turned) : Type 0 where
  pub slots : (n : ℕ) → SlotLeft core t.core t.step.slot n
  pub queues : (n : ℕ) → QueueLeft core t.core t.step.slot t.step.tick n
  pub outputs : (g : ℕ) → OutputLeft core t.core t.step.slot g
  pub memory : MemoryLeft m t.memory t.step.touched
  pub version : t.core.version ≡ core.version
  pub split : t.core.split ≡ core.split
  -- the turn of no slot leaves all
  pub nobody : slot_at core t.step.slot ≡ None → (t.core ≡ core) × (t.memory ≡ m)

-- A turn changes no more than its slot, slots that this one handles and that do not run, this one's queue and that of its
-- handler, the output of its group, and the word that it touched or one page.
abbrev pub TurnsLeaveTheRest : Type 0
TurnsLeaveTheRest = (i : Image) (s : State) (n : ℕ) → IsImage i → IsState s → Fits i s → LeavesTheRest s.core s.memory (turn_of s n)
