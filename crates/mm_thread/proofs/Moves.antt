-- What a turn moves of a core and of a memory.
use Rattle.std.proofs.Common.{◌≡◌, ◌⊎◌, ℕ, zero, suc, ◌+◌, inl, inr, Bool, true, false, if◌then◌else◌, List, [], ◌∷◌}
use Rattle.std.proofs.Common.{◌++◌, Option, Some, None, refl, sym, ap, ◌∙◌, subst, slice_index_or, slice_set}
use Rattle.std.{proofs.lemmas.Bool.cases_eq, specs.Prelude.IfSome}
use Rattle.mm_word.specs.{declared.{cause.Cause.Cause, word.Word.{Word, TheVariants.Int}}, Access.AccessValue}
use Rattle.mm_isa.specs.declared.instr.Instr.{Instr}
use Rattle.mm_model.specs.declared.slot.{SlotState.{SlotState, TheVariants.{Running, Waiting, Halted}}, Pending.Pending}
use Rattle.mm_model.specs.declared.{event.Event.Event, step.Tick.{Tick, TheVariants.{Idle, Blocked, Did, Faulted}}}
use Rattle.mm_model.specs.{Memory.Memory, Uses.Use, Slot.Slot}
use Rattle.mm_model.specs.State.{Core, slot_at, queue_at, put_slot, put_queue, output_of, put_output}
use Rattle.mm_model.specs.{Spelling.IsOther, Fits.{slots_of, IsFormed}, Operands.{addr_operand, value_operand}}
use Rattle.mm_model.specs.Ask.{Ask, ask, Ask.Nothing}
use Rattle.mm_model.specs.Effect.{Change, Effect, effect, delivered, Effect.{Fault, Block, Deliver, Do}}
use Rattle.mm_model.specs.Turn.{Turned, reply, put_all, state_after, with_issue, slot_after, with_other, with_queue}
use Rattle.mm_model.specs.Turn.{with_out, core_after, stood, is_sync, event_of, core_faulted, tick_faulted, faulted}
use Rattle.mm_model.specs.Turn.{touch_of, asked_use, blocked, ended, executed, idle, arrives, turn}
use Rattle.mm_model.proofs.CoreRows.{slot_at-put_same, slot_at-put_other, queue_at-put_slot, slot_at-put_queue}
use Rattle.mm_model.proofs.CoreRows.{queue_at-put_same, queue_at-put_other, slot_has, other_at}
use Rattle.mm_model.proofs.{CoreSteps.Fitting, TurnShapes.{fetch_uses, fetch_use, started_one, turn_by}}
use Rattle.mm_thread.proofs.Rows.{LoadsMove, SlotMove, MemoryMove, OtherMove, OtherMoves, QueueMoves, ChangeMoves}
use Rattle.mm_thread.proofs.Rows.{EffectMoves, delivered_move, delivered_turns, effect_moves}

-- 1. Slots.

module _ (C : ℕ → Type 0) where
  -- what stands at a number later; its turns are as many unless it counts
  pub record Moved (later : Core) (k : ℕ) (was : Slot) : Type 0 where
    pub now : Slot
    pub is : slot_at later k ≡ Some now
    pub move : SlotMove was now
    pub turns : (now.turns ≡ was.turns) ⊎ C k

  abbrev pub SlotsMove : Core → Core → Type 0
  SlotsMove core later = (k : ℕ) (was : Slot) → slot_at core k ≡ Some was → Moved later k was

  slots_stay : (core : Core) → SlotsMove core core
  slots_stay core k was at = record { now = was; is = at; move = record { number = refl; group = refl; handler = refl; loads = LoadsMove.stay refl refl }; turns = inl refl }

  put_moves : (core mid : Core) → SlotsMove core mid → (s own : Slot) → slot_at core s.number ≡ Some s → SlotMove s own → (own.turns ≡ s.turns) ⊎ C s.number → SlotsMove core (put_slot mid own)
  put_moves core mid h s own there move turns k was at = elim (cases_eq k s.number) [
    | inl e ↦
        let two : ◌≡◌ {A = Option Slot} (Some was) (Some s) = sym at ∙ ap (slot_at core) e ∙ there in
        let one : was ≡ s = cc in
        let old = h k was at in
        let stands : slot_at mid own.number ≡ Some old.now = ap (slot_at mid) (move.number ∙ sym e) ∙ old.is in
        record {
          now = own;
          is = ap (slot_at (put_slot mid own)) (e ∙ sym move.number) ∙ slot_at-put_same mid own old.now stands;
          move = subst (λ (x : Slot). SlotMove x own) (sym one) move;
          turns = elim turns [
            | inl same ↦ inl (same ∙ sym (ap (λ (x : Slot). x.turns) one))
            | inr counts ↦ inr (subst C (sym e) counts)
          ];
        }
    | inr ne ↦
        let old = h k was at in
        record { now = old.now; is = slot_at-put_other mid own k (λ e. ne (e ∙ move.number)) ∙ old.is; move = old.move; turns = old.turns }
  ]

  queue_moves_not : (core mid : Core) (n : ℕ) (q : List Event) → SlotsMove core mid → SlotsMove core (put_queue mid n q)
  queue_moves_not core mid n q h k was at = let old = h k was at in record { now = old.now; is = slot_at-put_queue mid n q k ∙ old.is; move = old.move; turns = old.turns }

  out_moves_not : (core mid : Core) (g : ℕ) (o : Option ℕ) → SlotsMove core mid → SlotsMove core (with_out mid g o)
  unfolding slot_at put_output
  out_moves_not core mid g None h = h
  out_moves_not core mid g (Some b) h = λ k was at. let old = h k was at in record { now = old.now; is = old.is; move = old.move; turns = old.turns }

stood_move : (s x : Slot) (state : SlotState) → SlotMove s x → SlotMove s (stood x state)
stood_move s x state m = record { number = m.number; group = m.group; handler = m.handler; loads = by m.loads }
  where
    by : LoadsMove s x → LoadsMove s (stood x state)
    by (LoadsMove.stay a b) = LoadsMove.stay a b
    by (LoadsMove.issue p a b) = LoadsMove.issue p a b
    by (LoadsMove.deliver p rest a b c) = LoadsMove.deliver p rest a b c

own_move : (s : Slot) → SlotMove s s
own_move s = record { number = refl; group = refl; handler = refl; loads = LoadsMove.stay refl refl }

after_move : (s : Slot) (c : Change) → SlotMove s (slot_after s c)
unfolding slot_after
after_move s c = by c.issue
  where
    by : (o : Option Pending) → SlotMove s (with_issue (record s { regs = put_all s.regs c.writes; ip = c.next; past = c.past; turns = s.turns + 1; state = state_after c.halts }) o)
    by None = record { number = refl; group = refl; handler = refl; loads = LoadsMove.stay refl refl }
    by (Some p) = record { number = refl; group = refl; handler = refl; loads = LoadsMove.issue p refl refl }

-- 2. Queues and outputs.

pub data QueueMove (was now : List Event) : Type 0 where
  keeps : now ≡ was → QueueMove was now
  adds : (e : Event) → now ≡ was ++ e ∷ [] → QueueMove was now
  loses : (e : Event) → was ≡ e ∷ now → QueueMove was now

abbrev pub QueuesMove : Core → Core → Type 0
QueuesMove core later = (h : ℕ) → QueueMove (queue_at core h) (queue_at later h)

pub data OutMove (was now : List ℕ) : Type 0 where
  keeps : now ≡ was → OutMove was now
  adds : (b : ℕ) → now ≡ was ++ b ∷ [] → OutMove was now

abbrev pub OutsMove : Core → Core → Type 0
OutsMove core later = (g : ℕ) → OutMove (output_of core g) (output_of later g)

set_cases : (xs : List (List ℕ)) (g : ℕ) (v : List ℕ) (h : ℕ) → (slice_index_or (slice_set xs g v) h [] ≡ slice_index_or xs h []) ⊎ ((h ≡ g) × (slice_index_or (slice_set xs g v) h [] ≡ v))
set_cases [] g v h = inl refl
set_cases (x ∷ xs) zero v zero = inr (refl, refl)
set_cases (x ∷ xs) zero v (suc h) = inl refl
set_cases (x ∷ xs) (suc g) v zero = inl refl
set_cases (x ∷ xs) (suc g) v (suc h) = elim (set_cases xs g v h) [
  | inl same ↦ inl same
  | inr set ↦ inr (ap suc set.0, set.1)
]

out_move : (core mid : Core) (g : ℕ) (o : Option ℕ) → mid.outputs ≡ core.outputs → OutsMove core (with_out mid g o)
unfolding output_of put_output
out_move core mid g None same h = OutMove.keeps (ap (λ (xs : List (List ℕ)). slice_index_or xs h []) same)
out_move core mid g (Some b) same h = elim (set_cases mid.outputs g (slice_index_or mid.outputs g [] ++ b ∷ []) h) [
  | inl is ↦ OutMove.keeps (is ∙ ap (λ (xs : List (List ℕ)). slice_index_or xs h []) same)
  | inr is ↦ OutMove.adds b (is.1 ∙ ap (λ k. slice_index_or mid.outputs k [] ++ b ∷ []) (sym is.0) ∙ ap (λ (xs : List (List ℕ)). slice_index_or xs h [] ++ b ∷ []) same)
]

outs_stay : (core mid : Core) → mid.outputs ≡ core.outputs → OutsMove core mid
unfolding output_of
outs_stay core mid same h = OutMove.keeps (ap (λ (xs : List (List ℕ)). slice_index_or xs h []) same)

-- 3. A turn.

-- a turn of this slot counts as one
abbrev pub Counts : (Tick → Bool) → Turned → ℕ → Type 0
Counts counts t k = (t.step.slot ≡ k) × (counts t.step.tick ≡ true)

-- which ticks count: those of turns
pub record CountsTurns (counts : Tick → Bool) : Type 0 where
  pub did : counts Did ≡ true
  pub blocked : counts Blocked ≡ true
  pub faulted : (c : Cause) → counts (Faulted c) ≡ true
  pub idle : counts Idle ≡ false

pub record TurnMoves (counts : Tick → Bool) (core : Core) (m : Memory) (t : Turned) : Type 0 where
  pub slots : SlotsMove (Counts counts t) core t.core
  pub queues : QueuesMove core t.core
  pub outputs : OutsMove core t.core
  pub asked : Ask
  pub memory : MemoryMove m asked t.memory
  pub idle : t.step.tick ≡ Idle → (t.core ≡ core) × (t.memory ≡ m)

fault_turns : (counts : Tick → Bool) → CountsTurns counts → (c : Cause) (o : Option ℕ) → counts (tick_faulted c o) ≡ true
fault_turns counts which c (Some h) = which.faulted c
fault_turns counts which c None = by (is_sync c)
  where
    by : (b : Bool) → counts (if b then Blocked else Faulted c) ≡ true
    by true = which.blocked
    by false = which.faulted c

-- outputs stay where a slot is put back, and by a fault

pub put_outs : (mid : Core) (x : Slot) → (put_slot mid x).outputs ≡ mid.outputs
unfolding put_slot
put_outs mid x = refl

pub fault_outs : (core : Core) (s : Slot) (e : Event) (o : Option ℕ) → (core_faulted core s e o).outputs ≡ core.outputs
unfolding core_faulted put_slot put_queue
fault_outs core s e (Some g) = refl
fault_outs core s e None = by (is_sync e.cause)
  where
    by : (b : Bool) → (if b then put_slot core (stood s Running) else put_slot core (stood s (Halted (Some e.cause)))).outputs ≡ core.outputs
    by true = refl
    by false = refl

module _ (counts : Tick → Bool) (which : CountsTurns counts) (core : Core) (m : Memory) (h : IsFormed core) (fit : Fitting core) where
  queues_put : (mid : Core) (own : Slot) → ((k : ℕ) → queue_at mid k ≡ queue_at core k) → QueuesMove core (put_slot mid own)
  queues_put mid own same k = QueueMove.keeps (queue_at-put_slot mid own k ∙ same k)

  module _ (s : Slot) (at : slot_at core s.number ≡ Some s) where
    fault_slots : (C : ℕ → Type 0) → C s.number → (e : Event) (o : Option ℕ) → SlotsMove C core (core_faulted core s e o)
    unfolding core_faulted
    fault_slots C counts e (Some g) =
        queue_moves_not C core (put_slot core (stood s Waiting)) g (queue_at (put_slot core (stood s Waiting)) g ++ e ∷
        []) (put_moves C core core (slots_stay C core) s (stood s Waiting) at (stood_move s s Waiting (own_move s))
        (inr counts))
    fault_slots C counts e None = by (is_sync e.cause)
      where
        by : (b : Bool) → SlotsMove C core (if b then put_slot core (stood s Running) else put_slot core (stood s (Halted (Some e.cause))))
        by true = put_moves C core core (slots_stay C core) s (stood s Running) at (stood_move s s Running (own_move s)) (inr counts)
        by false = put_moves C core core (slots_stay C core) s (stood s (Halted (Some e.cause))) at (stood_move s s (Halted (Some e.cause)) (own_move s)) (inr counts)

    fault_queues : (e : Event) (o : Option ℕ) → s.handler ≡ o → QueuesMove core (core_faulted core s e o)
    unfolding core_faulted
    fault_queues e None is = by (is_sync e.cause)
      where
        by : (b : Bool) → QueuesMove core (if b then put_slot core (stood s Running) else put_slot core (stood s (Halted (Some e.cause))))
        by true = queues_put core (stood s Running) (λ k. refl)
        by false = queues_put core (stood s (Halted (Some e.cause))) (λ k. refl)
    fault_queues e (Some g) is = λ k.
        let waits : Core = put_slot core (stood s Waiting) in
        let handlers = slot_has (λ (x : Slot). IfSome x.handler (IsOther (slots_of core) x.number)) core s.number s fit.handlers at in
        let other = other_at core h.rising s.number g (subst (λ o. IfSome o (IsOther (slots_of core) s.number)) is handlers) in
        let there : slot_at waits g ≡ Some other.1.0 = slot_at-put_other core (stood s Waiting) g other.0 ∙ other.1.1 in
        elim (cases_eq k g) [
          | inl e1 ↦
              QueueMove.adds e
              (ap (queue_at (put_queue waits g (queue_at waits g ++ e ∷ []))) e1
              ∙ queue_at-put_same waits g (queue_at waits g ++ e ∷ []) other.1.0 there
              ∙ ap (λ q. q ++ e ∷ []) (queue_at-put_slot core (stood s Waiting) g ∙ ap (queue_at core) (sym e1)))
          | inr ne ↦ QueueMove.keeps (queue_at-put_other waits g (queue_at waits g ++ e ∷ []) k ne ∙ queue_at-put_slot core (stood s Waiting) k)
        ]

    fault_moves : (c : Cause) (a v : Word) (f u : Option AccessValue) (us : List Use) → TurnMoves counts core m (faulted core m s c a v f u us)
    unfolding faulted
    fault_moves c a v f u us = record {
      slots = fault_slots (Counts counts (faulted core m s c a v f u us)) (refl, fault_turns counts which c s.handler) (event_of s c a v) s.handler;
      queues = fault_queues (event_of s c a v) s.handler refl;
      outputs = outs_stay core (core_faulted core s (event_of s c a v) s.handler) (fault_outs core s (event_of s c a v) s.handler);
      asked = Nothing;
      memory = MemoryMove.stays refl;
      idle = λ e. cc (fault_turns counts which c s.handler, which.idle);
    }

    -- the slot waits, and a load of its own or of a slot that it serves may have been delivered
    blocked_moves : (mid : Core) (x : Slot) → ((C : ℕ → Type 0) → SlotsMove C core mid)
        → ((k : ℕ) → queue_at mid k ≡ queue_at core k) → mid.outputs ≡ core.outputs → SlotMove s x
        → (f : AccessValue) (u : Option AccessValue) (us : List Use)
        → TurnMoves counts core m (blocked mid m x f u us)
    unfolding blocked
    blocked_moves mid x slots queues outs move f u us = record {
      slots = put_moves (Counts counts (blocked mid m x f u us)) core mid (slots (Counts counts (blocked mid m x f u us))) s (stood x Running) at (stood_move s x Running move) (inr (move.number, which.blocked));
      queues = queues_put mid (stood x Running) queues;
      outputs = outs_stay core (put_slot mid (stood x Running)) (put_outs mid (stood x Running) ∙ outs);
      asked = Nothing;
      memory = MemoryMove.stays refl;
      idle = λ e. cc;
    }

    module _ (asked : Ask) where
      other_slots : (C : ℕ → Type 0) (o : Slot) → OtherMove core s.number asked o → SlotsMove C core (put_slot core o)
      other_slots C o (OtherMove.serves old is there move turns) = put_moves C core core (slots_stay C core) old o (ap (slot_at core) (sym move.number) ∙ there) move (inl turns)
      other_slots C o (OtherMove.takes_first old e rest is queue slot there made) =
          let number : old.number ≡ o.number = sym (ap (λ (x : Slot). x.number) made) in
          put_moves C core core (slots_stay C core) old o (ap (slot_at core) number ∙ there)
          (record {
            number = sym number;
            group = ap (λ (x : Slot). x.group) made;
            handler = ap (λ (x : Slot). x.handler)
                made;
            loads = LoadsMove.stay (ap (λ (x : Slot). x.empty) made) (ap (λ (x : Slot). x.pending) made);
          })
          (inl (ap (λ (x : Slot). x.turns) made))

      with_slots : (C : ℕ → Type 0) (o : Option Slot) → OtherMoves core s.number asked o → SlotsMove C core (with_other core o)
      with_slots C None k = slots_stay C core
      with_slots C (Some o) k = other_slots C o k

      with_queues : (o : Option Slot) (k : ℕ) → queue_at (with_other core o) k ≡ queue_at core k
      with_queues None k = refl
      with_queues (Some o) k = queue_at-put_slot core o k

      with_outs : (o : Option Slot) (own : Slot) (q : Option (List Event)) → (with_queue (put_slot (with_other core o) own) s.number q).outputs ≡ core.outputs
      unfolding put_slot put_queue
      with_outs None own None = refl
      with_outs None own (Some q) = refl
      with_outs (Some o) own None = refl
      with_outs (Some o) own (Some q) = refl

      module _ (c : Change) (k : ChangeMoves core m s asked c) where
        abbrev own : Slot
        own = slot_after s c

        abbrev mid : Core
        mid = put_slot (with_other core c.other) own

        mid_slots : (C : ℕ → Type 0) → C s.number → SlotsMove C core mid
        mid_slots C counts = put_moves C core (with_other core c.other) (with_slots C c.other k.other) s own at (after_move s c) (inr counts)

        queued_slots : (C : ℕ → Type 0) → C s.number → (q : Option (List Event)) → SlotsMove C core (with_queue mid s.number q)
        queued_slots C counts None = mid_slots C counts
        queued_slots C counts (Some q) = queue_moves_not C core mid s.number q (mid_slots C counts)

        mid_queue : (j : ℕ) → queue_at mid j ≡ queue_at core j
        mid_queue j = queue_at-put_slot (with_other core c.other) own j ∙ with_queues c.other j

        own_there : slot_at mid s.number ≡ Some ((mid_slots (λ n. Unit {0}) tt) s.number s at).now
        own_there = ((mid_slots (λ n. Unit {0}) tt) s.number s at).is

        queued_queues : (q : Option (List Event)) → QueueMoves core s.number asked q → QueuesMove core (with_queue mid s.number q)
        queued_queues None y j = QueueMove.keeps (mid_queue j)
        queued_queues (Some q) y j = elim (cases_eq j s.number) [
          | inl e ↦
              let now : queue_at (put_queue mid s.number q) j ≡ q = ap (queue_at (put_queue mid s.number q)) e
              ∙ queue_at-put_same mid s.number q ((mid_slots (λ n. Unit {0}) tt) s.number s at).now own_there in
              QueueMove.loses y.1.0 (ap (queue_at core) e ∙ y.1.1 ∙ ap (λ l. y.1.0 ∷ l) (sym now))
          | inr ne ↦ QueueMove.keeps (queue_at-put_other mid s.number q j ne ∙ mid_queue j)
        ]

        out_queues : (x : Core) (o : Option ℕ) → QueuesMove core x → QueuesMove core (with_out x s.group o)
        unfolding queue_at put_output
        out_queues x None y = y
        out_queues x (Some b) y = y

        change_slots : (C : ℕ → Type 0) → C s.number → SlotsMove C core (core_after core s c)
        unfolding core_after
        change_slots C counts = out_moves_not C core (with_queue mid s.number c.queue) s.group c.out (queued_slots C counts c.queue)

        change_queues : QueuesMove core (core_after core s c)
        unfolding core_after
        change_queues = out_queues (with_queue mid s.number c.queue) c.out (queued_queues c.queue k.queue)

        change_outs : OutsMove core (core_after core s c)
        unfolding core_after
        change_outs = out_move core (with_queue mid s.number c.queue) s.group c.out (with_outs c.other own c.queue)

    ended_moves : (asked : Ask) (i : Instr) (f : AccessValue) (u : Option AccessValue) (us : List Use) (x : Effect) → EffectMoves core m s asked x → TurnMoves counts core m (ended core m s i f u us x)
    unfolding ended
    ended_moves asked i f u us (Fault c) k = fault_moves c (addr_operand i s) (value_operand i s) (Some f) u us
    ended_moves asked i f u us Block k = blocked_moves core s (λ C. slots_stay C core) (λ j. refl) refl (own_move s) f u us
    ended_moves asked i f u us (Deliver o) k = blocked_moves (put_slot core o) s (λ C. other_slots asked C o k) (λ j. queue_at-put_slot core o j) (put_outs core o) (own_move s) f u us
    ended_moves asked i f u us (Do c) k = record {
      slots = change_slots asked c k (Counts counts (ended core m s i f u us (Do c))) (refl, which.did);
      queues = change_queues asked c k;
      outputs = change_outs asked c k;
      asked = asked;
      memory = k.memory;
      idle = λ e. cc;
    }

    arrived_moves : (p : Pending) (rest : List Pending) → TurnMoves counts core m (arrives core m s (p ∷ rest))
    arrived_moves p rest = record {
      slots = put_moves (Counts counts (arrives core m s (p ∷ rest))) core core (slots_stay (Counts counts (arrives core m s (p ∷ rest))) core) s (delivered s) at (delivered_move s) (inl (delivered_turns s));
      queues = queues_put core (delivered s) (λ k. refl);
      outputs = outs_stay core (put_slot core (delivered s)) (put_outs core (delivered s));
      asked = Nothing;
      memory = MemoryMove.stays refl;
      idle = λ e. cc;
    }

  idle_moves : (n : ℕ) → TurnMoves counts core m (idle core m n)
  unfolding idle
  idle_moves n = record {
    slots = slots_stay (Counts counts (idle core m n)) core;
    queues = λ k. QueueMove.keeps refl;
    outputs
        = λ g. OutMove.keeps refl;
    asked = Nothing;
    memory = MemoryMove.stays refl;
    idle = λ e. (refl, refl);
  }

  pub turn_moves : (n : ℕ) → TurnMoves counts core m (turn core m n)
  unfolding executed
  turn_moves n = turn_by core m n (TurnMoves counts core m) (record {
    idles = λ k none. idle_moves k;
    arrives_at = λ s p rest free port is. arrived_moves s port.at p rest;
    starts = λ s r own. started_one core m s (TurnMoves counts core m) (record {
      faults = λ c f done aim. fault_moves s own c (Int 0) (Int 0) f None (fetch_uses f done);
      lacks_register = λ f i aim is lacking. blocked_moves s own core (delivered s) (λ C. slots_stay C core) (λ k. refl) refl (delivered_move s) f None (fetch_use f ∷ []);
      carries_out = λ f i aim is has.
          ended_moves s own (ask i s) i f (touch_of (ask i s)) (fetch_use f ∷ asked_use m (ask i s)) (effect core.split i s (reply core m s.number (ask i s)))
          (effect_moves core m s i);
    });
  })
