-- A turn reads the version of a core as the limit of outputs alone, so it is the same in a version whose limit it does not meet.
use Rattle.std.proofs.Common.{◌≡◌, ℕ, ◌^◌, ◌%◌, ◌≤◌, ◌⊎◌, inl, inr, Bool, true, false, nat_lt, if◌then◌else◌, List, []}
use Rattle.std.proofs.Common.{◌∷◌, length, Option, Some, None, Result, Ok, Err, refl, sym, ap, ◌∙◌, arith, ltb-true}
use Rattle.std.proofs.lemmas.Bool.{lt-ltb}
use Rattle.mm_word.specs.declared.perm.Kind.TheVariants.{Store}
use Rattle.mm_word.specs.declared.cause.Cause.{Cause, TheVariants.{Bounds, Priv, OutFull}}
use Rattle.mm_word.specs.{declared.word.{Pre.Pre, Word.{Word, TheVariants.Int}}, Access.{AccessValue, check_result}}
use Rattle.mm_word.specs.Word.{word_bits}
use Rattle.mm_isa.specs.declared.instr.Instr.{Instr, TheVariants.{Out, Ld, St, Map, Unmap}}
use Rattle.mm_model.specs.declared.{slot.SlotState.TheVariants.{Running, Halted}, event.Event.Event}
use Rattle.mm_model.specs.{declared.step.Tick.TheVariants.Faulted, Memory.Memory, Uses.Use, Slot.{Slot, register}}
use Rattle.mm_model.specs.State.{Core, slot_at, queue_at, put_slot, put_queue, output_of, put_output}
use Rattle.mm_model.specs.{Image.output_limit, Operands.{addr_operand, value_operand}}
use Rattle.mm_model.specs.Ask.{Ask, ask, is_privileged, load_kind, reaching}
use Rattle.mm_model.specs.Ask.Ask.{Nothing, Refuse, Reach, MapPage, UnmapPage, NextEvent, Room, Serve}
use Rattle.mm_model.specs.Effect.{Change, Effect, effect, delivered, puts_out}
use Rattle.mm_model.specs.Effect.{Reply.{Fine, Refused}, Effect.{Fault, Block, Deliver, Do}}
use Rattle.mm_model.specs.Turn.{Turned, reply, first_event, slot_after, with_other, with_queue, with_out, core_after}
use Rattle.mm_model.specs.Turn.{stood, is_sync, event_of, core_faulted, tick_faulted, faulted, touch_of, asked_use}
use Rattle.mm_model.specs.Turn.{blocked, ended, executed, started, idle, port_of, turn}
use Rattle.mm_model.proofs.TurnShapes.{fetch_uses, fetch_use, ItemAlike, same_option, started_by, turn_both}

-- the same in another version
abbrev pub core_as : ℕ → Core → Core
core_as v core = record core { version = v }

abbrev pub turned_as : ℕ → Turned → Turned
turned_as v t = record t { core = core_as v t.core }

-- outputs have the same limit in the version, or no lower one and the turn meets none
abbrev pub MeetsNoLimit : ℕ → Core → Turned → Type 0
MeetsNoLimit v core t = (output_limit v ≡ output_limit core.version) ⊎ ((output_limit core.version ≤ output_limit v) × (t.step.tick ≡ Faulted OutFull → ⊥))

-- then the turn is the same
abbrev Same : ℕ → Core → Turned → Turned → Type 0
Same v core t u = MeetsNoLimit v core t → u ≡ turned_as v t

full_tick : (o : Option ℕ) → tick_faulted OutFull o ≡ Faulted OutFull
full_tick None = refl
full_tick (Some h) = refl

module _ (v : ℕ) (core : Core) (m : Memory) where
  -- 1. Faults and changes.

  fault_core : (s : Slot) (e : Event) (o : Option ℕ) → core_faulted (core_as v core) s e o ≡ core_as v (core_faulted core s e o)
  unfolding core_faulted put_slot put_queue queue_at
  fault_core s e (Some h) = refl
  fault_core s e None = by (is_sync e.cause)
    where
      by : (b : Bool) → (if b then put_slot (core_as v core) (stood s Running) else put_slot (core_as v core) (stood s (Halted (Some e.cause))))
          ≡ core_as v (if b then put_slot core (stood s Running) else put_slot core (stood s (Halted (Some e.cause))))
      by true = refl
      by false = refl

  fault_as : (s : Slot) (c : Cause) (a w : Word) (f t : Option AccessValue) (us : List Use) → faulted (core_as v core) m s c a w f t us ≡ turned_as v (faulted core m s c a w f t us)
  unfolding faulted
  fault_as s c a w f t us = ap (λ (k : Core). record (faulted core m s c a w f t us) { core = k }) (fault_core s (event_of s c a w) s.handler)

  change_core : (s : Slot) (c : Change) → core_after (core_as v core) s c ≡ core_as v (core_after core s c)
  unfolding core_after put_slot put_queue output_of put_output
  change_core s c = by c.other c.queue c.out
    where
      by : (o : Option Slot) (q : Option (List Event)) (b : Option ℕ)
          → with_out (with_queue (put_slot (with_other (core_as v core) o) (slot_after s c)) s.number q) s.group b
          ≡ core_as v (with_out (with_queue (put_slot (with_other core o) (slot_after s c)) s.number q) s.group b)
      by None None None = refl
      by None None (Some byte) = refl
      by None (Some l) None = refl
      by None (Some l) (Some byte) = refl
      by (Some other) None None = refl
      by (Some other) None (Some byte) = refl
      by (Some other) (Some l) None = refl
      by (Some other) (Some l) (Some byte) = refl

  block_as : (s : Slot) (f : AccessValue) (t : Option AccessValue) (us : List Use) → blocked (core_as v core) m s f t us ≡ turned_as v (blocked core m s f t us)
  unfolding blocked put_slot
  block_as s f t us = refl

  end_as : (s : Slot) (i : Instr) (f : AccessValue) (t : Option AccessValue) (us : List Use) (y : Effect) → ended (core_as v core) m s i f t us y ≡ turned_as v (ended core m s i f t us y)
  unfolding ended blocked put_slot
  end_as s i f t us (Fault c) = fault_as s c (addr_operand i s) (value_operand i s) (Some f) t us
  end_as s i f t us Block = refl
  end_as s i f t us (Deliver other) = refl
  end_as s i f t us (Do c) = ap (λ (k : Core). record (ended core m s i f t us (Do c)) { core = k }) (change_core s c)

  -- 2. Replies: only the one for room for a byte has to do with the version.

  abbrev RoomAs : Ask → Type 0
  RoomAs (Room g) = nat_lt (length (output_of core g)) (output_limit v) ≡ nat_lt (length (output_of core g)) (output_limit core.version)
  RoomAs _ = Unit {0}

  event_as : (q : List Event) → first_event (core_as v core) q ≡ first_event core q
  unfolding slot_at
  event_as [] = refl
  event_as (e ∷ rest) = refl

  reply_as : (n : ℕ) (asked : Ask) → RoomAs asked → reply (core_as v core) m n asked ≡ reply core m n asked
  unfolding reply slot_at queue_at output_of
  reply_as n Nothing h = refl
  reply_as n (Refuse c) h = refl
  reply_as n (Reach a pre) h = refl
  reply_as n (MapPage page) h = refl
  reply_as n (UnmapPage page) h = refl
  reply_as n NextEvent h = event_as (queue_at core n)
  reply_as n (Room g) h = ap (λ (b : Bool). if b then Fine else Refused OutFull) h
  reply_as n (Serve k) h = refl

  room_reach : (r : Result AccessValue Cause) (pre : Pre) → RoomAs (reaching r pre)
  room_reach (Err c) pre = tt
  room_reach (Ok a) pre = tt

  room_page : (a : Ask) (b d : Bool) → RoomAs a → RoomAs (if b then (if d then a else Refuse Bounds) else Refuse Priv)
  room_page a true true h = h
  room_page a true false h = tt
  room_page a false d h = tt

  -- where there is no room, the turn faults
  out_full : (s : Slot) (f : AccessValue) (u : Use) (ra : ℕ) → nat_lt (length (output_of core s.group)) (output_limit core.version) ≡ false
      → (executed core m s f u (Out ra)).step.tick ≡ Faulted OutFull
  unfolding executed ask reply effect ended faulted
  out_full s f u ra full =
      ap (λ (b : Bool). (ended core m s (Out ra) f None (u ∷ []) (puts_out s (word_bits (register s ra) % 256) (if b then Fine else Refused OutFull))).step.tick) full ∙ full_tick s.handler

  room_out : (s : Slot) (f : AccessValue) (u : Use) (ra : ℕ) → MeetsNoLimit v core (executed core m s f u (Out ra)) → RoomAs (Room s.group)
  room_out s f u ra (inl same) = ap (nat_lt (length (output_of core s.group))) same
  room_out s f u ra (inr k) = by (nat_lt (length (output_of core s.group)) (output_limit core.version)) refl
    where
      by : (b : Bool) → nat_lt (length (output_of core s.group)) (output_limit core.version) ≡ b → RoomAs (Room s.group)
      by true e =
          let few = k.0 in
          let less = ltb-true (length (output_of core s.group)) (output_limit core.version) e in
          lt-ltb (length (output_of core s.group)) (output_limit v) (omega (arith, few, less)) ∙ sym e
      by false e = absurd (k.1 (out_full s f u ra e))

  room_as : (s : Slot) (f : AccessValue) (u : Use) (i : Instr) → MeetsNoLimit v core (executed core m s f u i) → RoomAs (ask i s)
  unfolding ask
  room_as s f u (Out ra) h = room_out s f u ra h
  room_as s f u (Ld rd ra pre post imm) h = room_reach (check_result (register s ra) imm (load_kind post)) pre
  room_as s f u (St ra rb pre post imm) h = room_reach (check_result (register s ra) imm Store) pre
  room_as s f u (Map rd ra) h = room_page (MapPage (word_bits (register s ra))) (is_privileged s.ip.perm) (nat_lt (word_bits (register s ra)) (2 ^ 42)) tt
  room_as s f u (Unmap rd ra) h = room_page (UnmapPage (word_bits (register s ra))) (is_privileged s.ip.perm) (nat_lt (word_bits (register s ra)) (2 ^ 42)) tt
  room_as s f u _ h = tt

  -- 3. The turn.

  execute_as : (s : Slot) (f : AccessValue) (u : Use) (i : Instr) → Same v core (executed core m s f u i) (executed (core_as v core) m s f u i)
  unfolding executed
  execute_as s f u i h =
      ap (λ r. ended (core_as v core) m s i f (touch_of (ask i s)) (u ∷ asked_use m (ask i s)) (effect core.split i s r)) (reply_as s.number (ask i s) (room_as s f u i h))
      ∙ end_as s i f (touch_of (ask i s)) (u ∷ asked_use m (ask i s)) (effect core.split i s (reply core m s.number (ask i s)))

  start_as : (s : Slot) → Same v core (started core m s) (started (core_as v core) m s)
  start_as s = started_by core (core_as v core) m m s s (record { past = refl; ip = refl; cells = λ f aim. refl; lacking = λ i. refl }) (Same v core) (record {
    faults = λ c f done aim h. fault_as s c (Int 0) (Int 0) f None (fetch_uses f done);
    lacks_register = λ f i aim is lacking h. block_as (delivered s) f None (fetch_use f ∷ []);
    carries_out = λ f i aim is has h. execute_as s f (fetch_use f) i h;
  })

  idle_as : (n : ℕ) → idle (core_as v core) m n ≡ turned_as v (idle core m n)
  unfolding idle
  idle_as n = refl

  item_as : (n : ℕ) → ItemAlike core (core_as v core) n (λ s. s)
  unfolding slot_at
  item_as n = record { slots = same_option (slot_at core n); ports = λ free. same_option (port_of core n); number = λ s. refl; state = λ s. refl; pending = λ s. refl }

  pub turn_as : (n : ℕ) → Same v core (turn core m n) (turn (core_as v core) m n)
  unfolding put_slot
  turn_as n = turn_both core (core_as v core) m m n (λ s. s) (item_as n) (Same v core)
      (record { idles = λ k none h. idle_as k; arrives_at = λ s p rest free port is h. refl; starts = λ s r own h. start_as s h })
