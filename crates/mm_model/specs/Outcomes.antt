-- What each cycle comes to, exactly, and what a fault changes.
use Rattle.std.specs.Prelude.{◌≡◌, ◌≢◌, ℕ, ◌+◌, true, if◌then◌else◌, List, [], ◌∷◌, ◌++◌, slice_get, Option, Some, None}
use Rattle.mm_word.specs.declared.cause.Cause.{Cause, TheVariants.Sync}
use Rattle.mm_model.specs.declared.slot.{SlotState.{SlotState, TheVariants.{Running, Waiting, Halted}}, Pending.Pending}
use Rattle.mm_model.specs.{declared.event.Event.Event, Memory.Memory, Slot.Slot, State.{Core, State, slot_at, queue_at}}
use Rattle.mm_model.specs.Turn.{is_running, is_handler, is_sync, stood}
use Rattle.mm_model.specs.Tests.{first_stop, Stop.{Fault, Deliver, Block}}

-- 1. The item of a cycle.

-- the item is the number of a slot that runs
pub record Runs (core : Core) (n : ℕ) (s : Slot) : Type 0 where
  pub at : slot_at core n ≡ Some s
  pub running : is_running s.state ≡ true

-- in a split machine, the item is the port of a slot whose oldest pending load is p
pub record IsPort (core : Core) (n : ℕ) (s : Slot) (p : Pending) : Type 0 where
  pub split : core.split ≡ true
  pub number : n ≡ 128 + s.number
  pub at : slot_at core s.number ≡ Some s
  pub oldest : slice_get s.pending 0 ≡ Some p

-- 2. What the cycle comes to.

-- idle: the item is neither the number of a slot that runs nor the port of a slot with a pending load
pub record IsIdle (core : Core) (n : ℕ) : Type 0 where
  pub no_slot : (s : Slot) → ¬ (Runs core n s)
  pub no_port : (s : Slot) (p : Pending) → ¬ (IsPort core n s p)

-- delivered: the item is the port of a slot whose oldest pending load is for this register
abbrev pub Delivers : Core → ℕ → ℕ → Type 0
Delivers core n reg = (s : Slot) × (p : Pending) × IsPort core n s p × (p.reg ≡ reg)

-- the slot runs by this item, and its turn stops at a fault
pub record StopsAt (core : Core) (m : Memory) (n : ℕ) (s : Slot) (c : Cause) : Type 0 where
  pub runs : Runs core n s
  pub stop : first_stop core m s ≡ Some (Fault c)

-- why a turn leaves its slot running at the same instruction
pub data Waits (core : Core) (m : Memory) (s : Slot) : Type 0 where
  -- a register that the instruction needs waits for a load
  for_load : (of : Slot) → first_stop core m s ≡ Some (Deliver of) → Waits core m s
  -- the synchronisation bit fails the precondition, and the slot has no handler
  for_bit : first_stop core m s ≡ Some (Fault Sync) → s.handler ≡ None → Waits core m s
  -- there is no event to take
  for_event : first_stop core m s ≡ Some Block → Waits core m s

-- blocked: the item is the number of a slot that runs, and its turn waits
abbrev pub Blocks : Core → Memory → ℕ → Type 0
Blocks core m n = (s : Slot) × Runs core n s × Waits core m s

-- faulted: the slot's turn stops at this fault, and does not wait for a synchronisation bit
abbrev pub Faults : Core → Memory → ℕ → Cause → Type 0
Faults core m n c = (s : Slot) × StopsAt core m n s c × (c ≡ Sync → s.handler ≢ None)

-- did: the slot's turn stops nowhere
abbrev pub Completes : Core → Memory → ℕ → Type 0
Completes core m n = (s : Slot) × Runs core n s × (first_stop core m s ≡ None)

-- 3. What a fault changes.

-- the state after a fault: a slot with a handler waits; one without a handler is halted, or runs on if it waits for a
-- synchronisation bit
abbrev pub state_faulted : Cause → Option ℕ → SlotState
state_faulted c (Some h) = Waiting
state_faulted c None = if is_sync c then Running else Halted (Some c)

-- what a slot's event adds to the queue of a number: the event, if the number is that of the slot's handler
abbrev pub events_for : ℕ → Slot → Event → List Event
events_for k s e = if is_handler k s.handler then e ∷ [] else []

-- a fault changes the slot's count of turns and its state, its handler's queue, and nothing else but the number of
-- cycles
pub record FaultChanges (s : Slot) (c : Cause) (old new : State) : Type 0 where
  pub memory : new.memory ≡ old.memory
  pub outputs : new.core.outputs ≡ old.core.outputs
  pub own : slot_at new.core s.number ≡ Some (stood s (state_faulted c s.handler))
  pub others : (k : ℕ) → k ≢ s.number → slot_at new.core k ≡ slot_at old.core k
  pub event : Event
  pub names : (event.slot ≡ s.number) × (event.cause ≡ c) × (event.ip ≡ s.ip)
  pub queues : (k : ℕ) → queue_at new.core k ≡ queue_at old.core k ++ events_for k s event
