-- Checkpoints: a state of an image's machine with the slot that round robin issued last.
use Rattle.std.specs.Prelude.{◌≡◌, ℕ, suc, ◌<◌, ◌≤◌, false, ◌==◌, if◌then◌else◌, List, [], ◌∷◌, map, length, Option}
use Rattle.std.specs.{Prelude.{Some, None, IfSome}, List.{find, AllByRecursion}, Option.option_map}
use Rattle.mm_word.specs.{declared.word.Cell.Cell, Cause.number_of}
use Rattle.mm_model.specs.declared.slot.SlotState.{SlotState, TheVariants.{Running, Waiting, Taken, Halted}}
use Rattle.mm_model.specs.{declared.event.Event.Event, Slot.Slot, Image.{Image, output_limit}, Fits.identity_of}
use Rattle.mm_model.specs.Limits.{cycle_limit}
use Rattle.mm_thread.specs.Output.{Output}
use Rattle.mm_machine.specs.Snapshot.{Parts, IsSnapshot, IsTyped}

-- 1. The parts of a checkpoint.

-- the parts of a checkpoint: those of a state, each group with the bytes of its output, and the slot that was issued
-- last
pub record Saved : Type 0 where
  pub slots : List Slot
  -- each event with the number of the slot in whose queue it is, in the order of the queue
  pub events : List (ℕ × Event)
  pub outputs : List (ℕ × List ℕ)
  pub pages : List (ℕ × List Cell)
  pub cycles : ℕ
  pub last : Option ℕ

abbrev pub saved_of : Parts → Option ℕ → Saved
saved_of p last = record {
  slots = p.slots;
  events = p.events;
  outputs = map (λ (o : Output). (o.group, o.bytes)) p.outputs;
  pages = p.pages;
  cycles = p.cycles;
  last = last;
}

-- the rules that the parts of a state keep for an image's checkpoint; a snapshot of a machine of the image keeps them
-- after at most 1,000,000 cycles
pub record IsCheckpoint (i : Image) (p : Parts) (last : Option ℕ) : Type 0 where
  pub rules : IsSnapshot p
  pub typed : IsTyped p
  -- the slots have the image's numbers, groups and handlers
  pub slots : map identity_of p.slots ≡ map identity_of i.slots
  pub cycles : p.cycles ≤ cycle_limit
  pub pages : length p.pages ≤ i.memory.frames
  pub outputs : AllByRecursion (λ (o : Output). length o.bytes ≤ output_limit i.version) p.outputs
  -- no load is pending unless the image is split
  pub mode : i.split ≡ false → AllByRecursion (λ (s : Slot). s.pending ≡ []) p.slots
  -- the last slot need not be one of the image
  pub issued : IfSome last (λ n. n < 64)

-- 2. The numbers that a checkpoint's file has for them.

abbrev pub last_byte : Option ℕ → ℕ
last_byte None = 255
last_byte (Some n) = n

abbrev pub state_byte : SlotState → ℕ
state_byte Running = 0
state_byte Waiting = 1
state_byte Taken = 2
state_byte (Halted cause) = 3

-- the event of a slot, if it waits
abbrev pub event_of : List (ℕ × Event) → ℕ → Option Event
event_of events n = option_map (λ x. x.1) (find (λ x. x.1.slot == n) events)

-- the number of the cause for which a slot waits or was halted, else 0
abbrev pub cause_byte : SlotState → Option Event → ℕ
cause_byte Waiting (Some event) = number_of event.cause
cause_byte (Halted (Some cause)) event = number_of cause
cause_byte _ _ = 0

-- the count of events in a queue before that of a slot
abbrev pub place_in : List (ℕ × Event) → (queue slot : ℕ) → ℕ
place_in [] queue slot = 0
place_in (x ∷ events) queue slot =
    if x.1.slot == slot then 0 else
    (if x.0 == queue then suc (place_in events queue slot) else place_in events queue slot)

-- the place of a waiting slot's event in its handler's queue
abbrev pub place_byte : List (ℕ × Event) → Slot → ℕ
place_byte events s = if state_byte s.state == 1 then place_in events
    (elim s.handler [ None ↦ 0 | Some handler ↦ handler ]) s.number else 0
