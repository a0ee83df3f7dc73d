-- What an image means: slots, memory, a version and a mode.
use Rattle.std.specs.Prelude.{ℕ, Bool, false, ◌==◌, if◌then◌else◌, List, [], ◌∷◌, map, replicate, Option, Some, None}
use Rattle.mm_model.specs.{Memory.Memory, Slot.Slot, State.State}

pub record Image : Type 0 where
  pub version : ℕ
  -- loads are issued and their values arrive later
  pub split : Bool
  pub slots : List Slot
  pub memory : Memory

-- the slot of a number, if there is one
abbrev pub slot_in : List Slot → ℕ → Option Slot
slot_in [] n = None
slot_in (s ∷ slots) n = if s.number == n then Some s else slot_in slots n

-- the most slots that a version has, and the limit of its numbers of slots and groups
abbrev pub slot_limit : ℕ → ℕ
slot_limit version = if version == 1 then 16 else 64

-- the most frames that a version has
abbrev pub frame_limit : ℕ → ℕ
frame_limit version = if version == 1 then 256 else 4096

-- the most bytes that a group may put out
abbrev pub output_limit : ℕ → ℕ
output_limit version = if version == 1 then 4096 else 65536

-- the flags of a slot in which no register waits for a load
abbrev pub none_empty : List Bool
none_empty = replicate 16 false

-- the machine's start: empty queues and outputs, no cycle so far
unfoldable pub start : Image → State
start i = record {
  core = record {
    rows = map (λ s. record { slot = s; queue = [] }) i.slots;
    outputs = replicate 64 [];
    version = i.version;
    split = i.split;
  };
  memory = i.memory;
  cycles = 0;
}
