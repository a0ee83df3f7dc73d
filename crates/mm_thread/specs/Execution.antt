-- What the execution of an instruction leaves of the machine before its turn is ended.
use Rattle.std.specs.Prelude.{◌≡◌, ℕ, ◌+◌, ◌<◌, ◌^◌, true, List, [], length, nat_lt, if◌then◌else◌, Option, None}
use Rattle.std.specs.Prelude.{Result, Ok, Err, pos}
use Rattle.mm_word.specs.{declared.cause.Cause.{Cause, TheVariants.{Bounds, NoPage, Sync, Priv}}, Word.word_bits}
use Rattle.mm_word.specs.declared.{perm.Kind.TheVariants.Fetch, word.Word.TheVariants.Ptr}
use Rattle.mm_word.specs.Access.{AccessValue, check_result}
use Rattle.mm_isa.specs.declared.instr.Instr.{Instr}
use Rattle.mm_model.specs.declared.slot.SlotState.TheVariants.{Running}
use Rattle.mm_model.specs.{declared.step.{Step.Step, Tick.TheVariants.{Did, Blocked}}, Memory.Memory}
use Rattle.mm_model.specs.{Slot.{Slot, register}, State.{Core, slot_at, put_slot}, Uses.{Use, accesses, TakesUses}}
use Rattle.mm_model.specs.{Operands.{addr_operand, value_operand}, Ask.{ask, is_privileged}}
use Rattle.mm_model.specs.Effect.{Effect, effect, plain, loads, Effect.{Fault, Block, Deliver, Do}}
use Rattle.mm_model.specs.Turn.{Turned, core_after, memory_after, reply, touch_of, asked_use, is_running, stood}
use Rattle.mm_model.specs.{Turn.{slot_after, core_faulted, event_of, tick_faulted}, Fits.IsCore}
use Rattle.mm_mem.specs.declared.answer.{Loaded.Loaded, Stored.Stored}
use Rattle.mm_thread.specs.declared.completion.{Completion.Completion, Retired.Retired}
use Rattle.mm_thread.specs.SlotIndices.{slot_in, with_slot}
use Rattle.mm_mem.specs.declared.answer.Loaded.TheVariants as loads_as
use Rattle.mm_mem.specs.declared.answer.Stored.TheVariants as stores_as
use Rattle.mm_thread.specs.declared.completion.Completion.TheVariants as completions

-- 1. A slot that takes a turn.

-- the slot at `slot_index` can take a turn
pub record CanTurn (core : Core) (slot_index : ℕ) : Type 0 where
  pub whole : IsCore core
  pub within : slot_index < length core.rows
  pub turns : (slot_in core slot_index).turns < 2 ^ 62
  pub runs : is_running (slot_in core slot_index).state ≡ true

-- the access that fetches a slot's instruction, or the cause of the first test that it fails
abbrev pub fetch_of : Slot → Result AccessValue Cause
fetch_of s = check_result (Ptr s.ip) (pos 0) Fetch

-- 2. What an effect leaves, without the slot's own turn if it waits or faults.

abbrev pub core_left : Core → Slot → Effect → Core
core_left core s (Fault c) = core
core_left core s Block = core
core_left core s (Deliver other) = put_slot core other
core_left core s (Do c) = core_after core s c

abbrev pub memory_left : Memory → Effect → Memory
memory_left m (Do c) = memory_after m c
memory_left m _ = m

abbrev pub completion_of : Effect → Completion
completion_of (Fault c) = completions.Faulted c
completion_of Block = completions.Blocked
completion_of (Deliver other) = completions.Blocked
completion_of (Do c) = completions.Did c.entered

pub record Leaves (core : Core) (m : Memory) (s : Slot) (e : Effect) (core' : Core) (m' : Memory) (completion : Completion) :
    Type 0 where
  pub core_is : core' ≡ core_left core s e
  pub memory_is : m' ≡ memory_left m e
  pub completion_is : completion ≡ completion_of e
  -- a slot that waits is unchanged
  pub stays : completion ≡ completions.Blocked → slot_at core' s.number ≡ slot_at core s.number

-- the effect of an instruction in this machine
abbrev pub effect_in : Core → Memory → Slot → Instr → Effect
effect_in core m s i = effect core.split i s (reply core m s.number (ask i s))

-- 3. What an instruction leaves, and what is asked of a memory.

module _ {M : Type 0} (meaning : M → Memory) (uses : M → ℕ) (stands : M → List Use → Type 0) where
  -- the instruction is carried out
  pub record Executes (core : Core) (s : Slot) (i : Instr) (old new : M) (core' : Core) (retired : Retired) : Type 0 where
    pub leaves : Leaves core (meaning old) s (effect_in core (meaning old) s i) core' (meaning new) retired.completion
    pub touched : retired.touched ≡ touch_of (ask i s)
    pub takes : TakesUses stands old new (asked_use (meaning old) (ask i s))
    pub count : uses new ≡ uses old + accesses (asked_use (meaning old) (ask i s))

  -- the turn is taken, and the observer `seen` is told its step
  pub record TakesTurn {W : Type 0} (tells : W → Step → W) (seen : W) (t : Turned) (old new : M) (core' : Core) (watch' : W) :
      Type 0 where
    pub core_is : core' ≡ t.core
    pub memory_is : meaning new ≡ t.memory
    pub watch_is : watch' ≡ tells seen t.step
    pub takes : TakesUses stands old new t.uses
    pub count : uses new ≡ uses old + accesses t.uses

-- 4. The end of a turn.

-- the condition for the end of a turn
abbrev pub CanEnd : Completion → Core → ℕ → Type 0
CanEnd (completions.Did entered) core slot_index = Unit {0}
CanEnd completions.Blocked core slot_index = (slot_index < length core.rows) × ((slot_in core slot_index).turns < 2 ^ 62)
CanEnd (completions.Faulted c) core slot_index = CanTurn core slot_index

abbrev pub core_ended : Instr → Core → Slot → ℕ → Completion → Core
core_ended i core s slot_index (completions.Did entered) = core
core_ended i core s slot_index completions.Blocked = with_slot core slot_index (stood s Running)
core_ended i core s slot_index (completions.Faulted c)
    = core_faulted core s (event_of s c (addr_operand i s) (value_operand i s)) s.handler

abbrev pub step_ended : ℕ → Slot → Option AccessValue → Option AccessValue → Completion → Step
step_ended n s f touched (completions.Did entered)
    = record { tick = Did; slot = n; fetched = f; touched = touched; entered = entered }
step_ended n s f touched completions.Blocked = record { tick = Blocked; slot = n; fetched = f; touched = touched; entered = None }
step_ended n s f touched (completions.Faulted c)
    = record { tick = tick_faulted c s.handler; slot = n; fetched = f; touched = touched; entered = None }

-- 5. The answers of a memory, and what they do to a slot.

abbrev pub core_loaded : Core → ℕ → ℕ → Loaded → Core
core_loaded core slot_index rd (loads_as.Value w)
    = with_slot core slot_index (slot_after (slot_in core slot_index) (loads core.split (slot_in core slot_index) rd w))
core_loaded core slot_index rd _ = core

abbrev pub completion_loaded : Loaded → Completion
completion_loaded (loads_as.Value w) = completions.Did None
completion_loaded loads_as.NoPage = completions.Faulted NoPage
completion_loaded loads_as.NotReady = completions.Faulted Sync

abbrev pub core_stored : Core → ℕ → Stored → Core
core_stored core slot_index stores_as.Done
    = with_slot core slot_index (slot_after (slot_in core slot_index) (plain (slot_in core slot_index)))
core_stored core slot_index _ = core

abbrev pub completion_stored : Stored → Completion
completion_stored stores_as.Done = completions.Did None
completion_stored stores_as.NoPage = completions.Faulted NoPage
completion_stored stores_as.NotReady = completions.Faulted Sync

-- the page that a register names, if the code is privileged and the number is below 2^42
abbrev pub page_named : Slot → ℕ → Result ℕ Cause
page_named s ra =
    if is_privileged s.ip.perm then
    (if nat_lt (word_bits (register s ra)) (2 ^ 42) then Ok (word_bits (register s ra)) else Err Bounds) else Err
    Priv

-- a turn that asks nothing of a memory and leaves it as it is, and whose step the observer `seen` is told
pub record AsksNothing {W : Type 0} (tells : W → Step → W) (seen : W) (t : Turned) (m : Memory) (core' : Core) (watch' : W) :
    Type 0 where
  pub core_is : core' ≡ t.core
  pub memory_is : m ≡ t.memory
  pub watch_is : watch' ≡ tells seen t.step
  pub uses_are : t.uses ≡ []
