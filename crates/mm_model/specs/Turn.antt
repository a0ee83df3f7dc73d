-- One turn of one slot, and the cycle that names it.
use Rattle.std.specs.Prelude.{ℕ, ◌+◌, ◌-◌, Bool, true, false, ◌&&◌, ◌==◌, nat_lt, nat_le, if◌then◌else◌, pos, List, []}
use Rattle.std.specs.Prelude.{◌∷◌, ◌++◌, slice_set, length, Option, Some, None, Result, Ok, Err}
use Rattle.mm_word.specs.declared.perm.Kind.TheVariants.{Fetch}
use Rattle.mm_word.specs.declared.cause.Cause.{Cause, TheVariants.{Bounds, NoPage, Sync, Illegal, NoSlot, OutFull}}
use Rattle.mm_word.specs.declared.word.{Pre.Pre, Word.{Word, TheVariants.{Int, Ptr}}, Cell.Cell}
use Rattle.mm_word.specs.Access.{AccessValue, check_result}
use Rattle.mm_isa.specs.{declared.instr.Instr.Instr, Decode.instr_of}
use Rattle.mm_model.specs.declared.slot.SlotState.{SlotState, TheVariants.{Running, Waiting, Taken, Halted}}
use Rattle.mm_model.specs.declared.{slot.Pending.Pending, event.Event.Event}
use Rattle.mm_model.specs.declared.step.{Step.Step, Tick.{Tick, TheVariants.{Idle, Blocked, Did, Faulted, Delivered}}}
use Rattle.mm_model.specs.Memory.{Memory, cell_at, put_cell, is_mapped, can_map, map_page, unmap_page, passes}
use Rattle.mm_model.specs.{Uses.{Use, Accessed, Removed, use_at}, Slot.Slot}
use Rattle.mm_model.specs.State.{Core, slot_at, put_slot, queue_at, put_queue, output_of, put_output}
use Rattle.mm_model.specs.{Image.output_limit, Operands.{addr_operand, value_operand, lacks}}
use Rattle.mm_model.specs.Ask.{Ask, ask, Ask.{Nothing, Refuse, Reach, MapPage, UnmapPage, NextEvent, Room, Serve}}
use Rattle.mm_model.specs.Effect.{Reply, Change, Pages, Effect, effect, delivered}
use Rattle.mm_model.specs.Effect.{Reply.{Fine, Refused, Got, Paged, NoEvent, Took, Served}, Pages.{Keep, Add, Remove}}
use Rattle.mm_model.specs.Effect.Effect.{Fault, Block, Deliver, Do}

-- what a turn leaves, its step, and what it asks of memory, in order
pub record Turned : Type 0 where
  pub core : Core
  pub memory : Memory
  pub step : Step
  pub uses : List Use

-- 1. The reply to what an instruction asks.

abbrev pub reached : AccessValue → Pre → Option Cell → Reply
reached a pre None = Refused NoPage
reached a pre (Some c) = if passes pre c.full then Got a c else Refused Sync

abbrev pub event_reply : Event → List Event → Option Slot → Reply
event_reply e rest None = NoEvent
event_reply e rest (Some of) = Took e rest of

abbrev pub first_event : Core → List Event → Reply
first_event core [] = NoEvent
first_event core (e ∷ rest) = event_reply e rest (slot_at core e.slot)

abbrev pub is_running : SlotState → Bool
is_running Running = true
is_running _ = false

abbrev pub is_taken : SlotState → Bool
is_taken Taken = true
is_taken _ = false

abbrev pub is_handler : ℕ → Option ℕ → Bool
is_handler n None = false
is_handler n (Some h) = h == n

abbrev pub served : ℕ → Option Slot → Reply
served n None = Refused NoSlot
served n (Some of) = if is_handler n of.handler && is_taken of.state then Served of else Refused NoSlot

unfoldable pub reply : Core → Memory → ℕ → Ask → Reply
reply core m n Nothing = Fine
reply core m n (Refuse c) = Refused c
reply core m n (Reach a pre) = reached a pre (cell_at m a.addr)
reply core m n (MapPage page) = Paged page (can_map m page)
reply core m n (UnmapPage page) = Paged page (is_mapped m page)
reply core m n NextEvent = first_event core (queue_at core n)
reply core m n (Room g) =
    if nat_lt (length (output_of core g)) (output_limit core.version) then Fine else Refused OutFull
reply core m n (Serve k) = served n (slot_at core k)

-- 2. What an effect makes of the machine.

abbrev pub put_all : List Word → List (ℕ × Word) → List Word
put_all regs [] = regs
put_all regs (w ∷ ws) = put_all (slice_set regs w.0 w.1) ws

abbrev pub state_after : Bool → SlotState
state_after true = Halted None
state_after false = Running

abbrev pub with_issue : Slot → Option Pending → Slot
with_issue s None = s
with_issue s (Some p) = record s { empty = slice_set s.empty p.reg true; pending = s.pending ++ p ∷ [] }

-- the slot's own part of a change
unfoldable pub slot_after : Slot → Change → Slot
slot_after s c = with_issue
    (record s {
      regs = put_all s.regs c.writes;
      ip = c.next;
      past = c.past;
      turns = s.turns + 1;
      state = state_after
          c.halts;
    }) c.issue

abbrev pub with_other : Core → Option Slot → Core
with_other core None = core
with_other core (Some other) = put_slot core other

abbrev pub with_queue : Core → ℕ → Option (List Event) → Core
with_queue core n None = core
with_queue core n (Some q) = put_queue core n q

abbrev pub with_out : Core → ℕ → Option ℕ → Core
with_out core g None = core
with_out core g (Some byte) = put_output core g (output_of core g ++ byte ∷ [])

abbrev pub with_cell : Memory → Option (ℕ × Cell) → Memory
with_cell m None = m
with_cell m (Some w) = put_cell m w.0 w.1

abbrev pub with_pages : Memory → Pages → Memory
with_pages m Keep = m
with_pages m (Add page) = map_page m page
with_pages m (Remove page) = unmap_page m page

unfoldable pub core_after : Core → Slot → Change → Core
core_after core s c =
    with_out (with_queue (put_slot (with_other core c.other) (slot_after s c)) s.number c.queue) s.group c.out

unfoldable pub memory_after : Memory → Change → Memory
memory_after m c = with_pages (with_cell m c.cell) c.pages

-- the slot after a turn that changes only its count of turns and its state
abbrev pub stood : Slot → SlotState → Slot
stood s state = record s { turns = s.turns + 1; state = state }

-- 3. Faults: a slot with a handler waits, and its event goes to the handler's queue; one without a handler is halted,
--    or waits in its place for a synchronisation bit.

abbrev pub is_sync : Cause → Bool
is_sync Sync = true
is_sync _ = false

unfoldable pub event_of : Slot → Cause → Word → Word → Event
event_of s c a v = record { slot = s.number; cause = c; ip = s.ip; addr_op = a; value_op = v }

unfoldable pub core_faulted : Core → Slot → Event → Option ℕ → Core
core_faulted core s e (Some h) =
    let waits = put_slot core (stood s Waiting) in put_queue waits h (queue_at waits h ++ e ∷ [])
core_faulted core s e None =
    if is_sync e.cause then put_slot core (stood s Running) else put_slot core (stood s (Halted (Some e.cause)))

abbrev pub tick_faulted : Cause → Option ℕ → Tick
tick_faulted c (Some h) = Faulted c
tick_faulted c None = if is_sync c then Blocked else Faulted c

unfoldable pub faulted : Core → Memory → Slot → Cause → Word → Word → Option AccessValue → Option AccessValue → List Use → Turned
faulted core m s c a v fetched touched uses = record {
  core = core_faulted core s (event_of s c a v) s.handler;
  memory = m;
  step = record {
    tick = tick_faulted c s.handler;
    slot = s.number;
    fetched = fetched;
    touched = touched;
    entered = None;
  };
  uses = uses;
}

-- 4. The turn.

abbrev pub removal_use : ℕ → Bool → List Use
removal_use page true = Removed page ∷ []
removal_use page false = []

-- what the instruction asks of memory
abbrev pub asked_use : Memory → Ask → List Use
asked_use m (Reach a pre) = use_at a.kind a.addr pre (cell_at m a.addr) ∷ []
asked_use m (UnmapPage page) = removal_use page (is_mapped m page)
asked_use m _ = []

abbrev pub touch_of : Ask → Option AccessValue
touch_of (Reach a pre) = Some a
touch_of _ = None

unfoldable pub blocked : Core → Memory → Slot → AccessValue → Option AccessValue → List Use → Turned
blocked core m s f touched uses = record {
  core = put_slot core (stood s Running);
  memory = m;
  step = record { tick = Blocked; slot = s.number; fetched = Some f; touched = touched; entered = None };
  uses = uses;
}

unfoldable pub ended : Core → Memory → Slot → Instr → AccessValue → Option AccessValue → List Use → Effect → Turned
ended core m s i f touched uses (Fault c) =
    faulted core m s c (addr_operand i s) (value_operand i s) (Some f) touched uses
ended core m s i f touched uses Block = blocked core m s f touched uses
ended core m s i f touched uses (Deliver other) = blocked (put_slot core other) m s f touched uses
ended core m s i f touched uses (Do c) = record {
  core = core_after core s c;
  memory = memory_after m c;
  step = record { tick = Did; slot = s.number; fetched = Some f; touched = touched; entered = c.entered };
  uses = uses;
}

unfoldable pub executed : Core → Memory → Slot → AccessValue → Use → Instr → Turned
executed core m s f u i =
    let asked = ask i s in
    ended core m s i f (touch_of asked) (u ∷ asked_use m asked) (effect core.split i s (reply core m s.number asked))

-- an instruction that needs an empty register waits, and the slot's oldest pending load is delivered
unfoldable pub issued : Core → Memory → Slot → AccessValue → Use → Instr → Turned
issued core m s f u i =
    if core.split && lacks i s then blocked core m (delivered s) f None (u ∷ []) else executed core m s f u i

abbrev pub decoded : Core → Memory → Slot → AccessValue → Use → Option Instr → Turned
decoded core m s f u None = faulted core m s Illegal (Int 0) (Int 0) (Some f) None (u ∷ [])
decoded core m s f u (Some i) = issued core m s f u i

-- the instruction that a word spells
abbrev pub instr_in : Word → Option Instr
instr_in (Int bits) = instr_of bits
instr_in (Ptr p) = None

abbrev pub fetched : Core → Memory → Slot → AccessValue → Option Cell → Turned
fetched core m s f None =
    faulted core m s NoPage (Int 0) (Int 0) (Some f) None (Accessed f.kind f.addr false false ∷ [])
fetched core m s f (Some c) = decoded core m s f (Accessed f.kind f.addr true true) (instr_in c.word)

abbrev pub aimed : Core → Memory → Slot → Result AccessValue Cause → Turned
aimed core m s (Err c) = faulted core m s c (Int 0) (Int 0) None None []
aimed core m s (Ok f) = fetched core m s f (cell_at m f.addr)

unfoldable pub started : Core → Memory → Slot → Turned
started core m s =
    if s.past then faulted core m s Bounds (Int 0) (Int 0) None None []
    else aimed core m s (check_result (Ptr s.ip) (pos 0) Fetch)

-- the turn that changes nothing but the number of cycles
unfoldable pub idle : Core → Memory → ℕ → Turned
idle core m n =
    record {
      core = core;
      memory = m;
      step = record { tick = Idle; slot = n; fetched = None; touched = None; entered = None };
      uses = [];
    }

abbrev pub arrives : Core → Memory → Slot → List Pending → Turned
arrives core m s [] = idle core m s.number
arrives core m s (p ∷ rest) = record {
  core = put_slot core (delivered s);
  memory = m;
  step = record { tick = Delivered p.reg; slot = s.number; fetched = None; touched = None; entered = None };
  uses = [];
}

-- the slot of a port: in a split machine item 128 + N is the port of slot N
abbrev pub port_of : Core → ℕ → Option Slot
port_of core n = if core.split && nat_le 128 n then slot_at core (n - 128) else None

abbrev pub taken_by_port : Core → Memory → ℕ → Option Slot → Turned
taken_by_port core m n None = idle core m n
taken_by_port core m n (Some s) = arrives core m s s.pending

abbrev pub taken_by : Core → Memory → ℕ → Option Slot → Turned
taken_by core m n None = taken_by_port core m n (port_of core n)
taken_by core m n (Some s) = if is_running s.state then started core m s else idle core m n

-- the turn of an item: a running slot takes one, a port delivers, and any other item is idle
unfoldable pub turn : Core → Memory → ℕ → Turned
turn core m n = taken_by core m n (slot_at core n)
