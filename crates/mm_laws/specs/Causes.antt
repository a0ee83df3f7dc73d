-- The outcome of each cycle, exactly, and what a fault changes.
use Rattle.std.specs.Prelude.{◌≡◌, ◌↔◌, ℕ}
use Rattle.mm_word.specs.declared.cause.Cause.{Cause}
use Rattle.mm_model.specs.{declared.step.Tick.TheVariants.{Idle, Blocked, Did, Faulted, Delivered}, Slot.Slot}
use Rattle.mm_model.specs.{State.State, Image.Image, Spelling.IsImage, Fits.{IsState, Fits}}
use Rattle.mm_model.specs.Outcomes.{IsIdle, Delivers, StopsAt, Blocks, Faults, Completes, FaultChanges}
use Rattle.mm_model.specs.Run.{turn_of, after}

-- a cycle is idle exactly if its item is neither the number of a slot that runs nor a port where a load is pending
abbrev pub IdleExactly : Type 0
IdleExactly = (i : Image) (s : State) (n : ℕ) → IsImage i → IsState s → Fits i s → ((turn_of s n).step.tick ≡ Idle)
    ↔ IsIdle s.core n

-- a cycle delivers to a register exactly if its item is a port, and the oldest load that is pending there is for this
-- register
abbrev pub DeliveredExactly : Type 0
DeliveredExactly = (i : Image) (s : State) (n reg : ℕ) → IsImage i → IsState s → Fits i s
    → ((turn_of s n).step.tick ≡ Delivered reg) ↔ Delivers s.core n reg

-- a cycle is blocked exactly if its item names a running slot whose turn waits
abbrev pub BlockedExactly : Type 0
BlockedExactly = (i : Image) (s : State) (n : ℕ) → IsImage i → IsState s → Fits i s
    → ((turn_of s n).step.tick ≡ Blocked) ↔ Blocks s.core s.memory n

-- a cycle faults exactly if its item names a running slot whose turn stops at this fault and does not wait
abbrev pub FaultedExactly : Type 0
FaultedExactly = (s : State) (n : ℕ) (c : Cause) → ((turn_of s n).step.tick ≡ Faulted c) ↔ Faults s.core s.memory n c

-- a cycle is carried out exactly if its item names a running slot whose turn stops nowhere
abbrev pub DidExactly : Type 0
DidExactly = (i : Image) (s : State) (n : ℕ) → IsImage i → IsState s → Fits i s → ((turn_of s n).step.tick ≡ Did)
    ↔ Completes s.core s.memory n

-- a turn that stops at a fault changes what a fault changes and nothing else
abbrev pub FaultsChangeNothingElse : Type 0
FaultsChangeNothingElse = (i : Image) (s : State) (n : ℕ) (x : Slot) (c : Cause) → IsImage i → IsState s → Fits i s
    → StopsAt s.core s.memory n x c → FaultChanges x c s (after s n)
