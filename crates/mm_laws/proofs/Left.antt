-- What each shape of a turn leaves as it was.
use Rattle.std.proofs.Common.{◌≡◌, ◌≢◌, inl, inr, ℕ, Bool, true, false, List, [], ◌∷◌, ◌++◌, length, Option}
use Rattle.std.proofs.Common.{Some, None, refl, sym, ap, ◌∙◌, subst, slice_index_or, slice_set}
use Rattle.std.proofs.Common.{get_or-set_same, get_or-set_other}
use Rattle.std.proofs.lemmas.{Bool.{cases_eq, cases_lt}, List.set_past}
use Rattle.std.specs.Prelude.{if◌then◌else◌}
use Rattle.mm_word.specs.{declared.{cause.Cause.Cause, word.Word.{Word, TheVariants.Int}}, Access.AccessValue}
use Rattle.mm_isa.specs.declared.instr.Instr.{Instr}
use Rattle.mm_model.specs.declared.slot.{SlotState.{TheVariants.{Running, Waiting, Halted}}, Pending.Pending}
use Rattle.mm_model.specs.declared.{event.Event.Event, step.Tick.{Tick, TheVariants.{Blocked, Did, Faulted, Delivered}}}
use Rattle.mm_model.specs.{Memory.Memory, Uses.Use, Slot.Slot}
use Rattle.mm_model.specs.State.{ThreadRow, Core, row_in, slot_of, queue_of, slot_at, queue_at, put_slot, put_queue, output_of, put_output}
use Rattle.mm_model.specs.{Operands.{addr_operand, value_operand}, Ask.ask}
use Rattle.mm_model.specs.Effect.{Change, Effect, effect, delivered, Effect.{Fault, Block, Deliver, Do}}
use Rattle.mm_model.specs.Turn.{Turned, reply, slot_after, with_other, with_queue, with_out, core_after, stood, is_sync}
use Rattle.mm_model.specs.Turn.{event_of, core_faulted, faulted, touch_of, asked_use, blocked, ended, executed, idle}
use Rattle.mm_model.specs.Turn.{arrives, is_running, tick_faulted, turn}
use Rattle.mm_model.specs.Fits.{IsFormed, Matches}
use Rattle.mm_model.proofs.CoreRows.{slot_at-put_same, slot_at-put_other, queue_at-put_slot, slot_at-put_queue}
use Rattle.mm_model.proofs.CoreRows.{queue_at-put_same, queue_at-put_other}
use Rattle.mm_model.proofs.{SlotSteps.delivered_from, CoreSteps.{Replaces, waited}}
use Rattle.mm_model.proofs.EffectSteps.{OtherKeeps, Moves, EffectKeeps}
use Rattle.mm_model.proofs.TurnKeeps.{changed_from, row_keeps, still_there, event_waited}
use Rattle.mm_model.proofs.TurnChanges.{MemoryMoves, MemoryMoves.{Stays, Writes, Maps, Removes}, turn_changes}
use Rattle.mm_model.proofs.TurnChanges.{SameButRows, same_output, moved_same, fault_same}
use Rattle.mm_model.proofs.TurnShapes.{fetch_uses, fetch_use, started_one, turn_by}
use Rattle.mm_laws.specs.Frames.{MemoryLeft, LeavesTheRest}
use Rattle.mm_laws.specs.Frames.{SlotLeft, QueueLeft, OutputLeft}

-- 1. What a turn leaves of a core.

record Leaves (core later : Core) (by : ℕ) (tick : Tick) : Type 0 where
  slots : (n : ℕ) → SlotLeft core later by n
  queues : (n : ℕ) → QueueLeft core later by tick n
  outputs : (g : ℕ) → OutputLeft core later by g

abbrev LeavesAll : Core → Memory → Turned → Type 0
LeavesAll core m t = Leaves core t.core t.step.slot t.step.tick × (slot_at core t.step.slot ≡ None → (t.core ≡ core) × (t.memory ≡ m))

-- another slot that is put: it did not run, and is handled by this one
record Serves (core : Core) (by : ℕ) (o : Slot) : Type 0 where
  replaces : Replaces core o
  handler : replaces.old.handler ≡ Some by
  rests : is_running replaces.old.state ≡ false
  turns : replaces.old.turns ≡ o.turns

-- the slots of two cores are the same, and their queues
record SameRows (core later : Core) : Type 0 where
  slots : (n : ℕ) → slot_at later n ≡ slot_at core n
  queues : (n : ℕ) → queue_at later n ≡ queue_at core n

out_same : (core : Core) (g : ℕ) (o : Option ℕ) → SameRows core (with_out core g o)
unfolding put_output slot_at queue_at
out_same core g None = record { slots = λ n. refl; queues = λ n. refl }
out_same core g (Some byte) = record { slots = λ n. refl; queues = λ n. refl }

-- 2. A core with a slot in place of the turn's own, and maybe one in place of another.

module _ (core : Core) (by : ℕ) (s : Slot) (number : s.number ≡ by) where
  other_put : (o : Slot) → Serves core by o → (k : Core) → ((n : ℕ) → n ≢ by → slot_at k n ≡ slot_at (put_slot core o) n) → (n : ℕ) → SlotLeft core k by n
  other_put o v k same n = elim (cases_eq n by) [
    | inl own ↦ SlotLeft.Own own
    | inr ne ↦ elim (cases_eq n o.number) [
      | inl e ↦ SlotLeft.Served (record {
        before = v.replaces.old;
        after = o;
        was = ap (slot_at core) e ∙ v.replaces.stands;
        is = same n ne ∙ ap (slot_at (put_slot core o)) e ∙ slot_at-put_same core o v.replaces.old v.replaces.stands;
        handler = v.handler;
        rests = v.rests;
        turns = sym v.turns;
      })
      | inr other ↦ SlotLeft.Same (same n ne ∙ slot_at-put_other core o n other)
    ]
  ]

  own_put : (k : Core) → ((n : ℕ) → n ≢ by → slot_at k n ≡ slot_at core n) → (n : ℕ) → SlotLeft core k by n
  own_put k same n = elim (cases_eq n by) [ inl own ↦ SlotLeft.Own own | inr ne ↦ SlotLeft.Same (same n ne) ]

  put_others : (k : Core) (n : ℕ) → n ≢ by → slot_at (put_slot k s) n ≡ slot_at k n
  put_others k n ne = slot_at-put_other k s n (λ e. ne (e ∙ number))

  -- it alone
  own_leaves : (tick : Tick) → Leaves core (put_slot core s) by tick
  unfolding put_slot output_of
  own_leaves tick = record {
    slots = own_put (put_slot core s) (put_others core);
    queues = λ n. QueueLeft.Same (queue_at-put_slot core s n);
    outputs = λ g. OutputLeft.Same refl;
  }

  both_leave : (o : Slot) → Serves core by o → (tick : Tick) → Leaves core (put_slot (put_slot core o) s) by tick
  unfolding put_slot output_of
  both_leave o v tick = record {
    slots = other_put o v (put_slot (put_slot core o) s) (put_others (put_slot core o));
    queues = λ n. QueueLeft.Same (queue_at-put_slot (put_slot core o) s n ∙ queue_at-put_slot core o n);
    outputs = λ g. OutputLeft.Same refl;
  }

-- a slot that is not there has no queue
queue_none : (core : Core) (n : ℕ) → slot_at core n ≡ None → queue_at core n ≡ []
unfolding slot_at queue_at
queue_none core n none = by (row_in core.rows n) none
  where
    by : (o : Option ThreadRow) → slot_of o ≡ None → queue_of o ≡ []
    by None e = refl
    by (Some row) e = cc

byte_leaves : (core k : Core) → SameButRows core k → (s : Slot) → slot_at core s.number ≡ Some s → (byte g : ℕ) → OutputLeft core (with_out k s.group (Some byte)) s.number g
unfolding put_output output_of
byte_leaves core k same s at byte g =
    let bytes : List ℕ = slice_index_or k.outputs s.group [] ++ byte ∷ [] in
    let was : slice_index_or k.outputs g [] ≡ slice_index_or core.outputs g [] = ap (λ (l : List (List ℕ)). slice_index_or l g []) same.outputs in
    elim (cases_eq g s.group) [
      | inl own ↦ elim (cases_lt s.group (length k.outputs)) [
        | inl inside ↦ OutputLeft.Put (record {
          slot = s;
          there = at;
          group = sym own;
          byte = byte;
          is = ap (λ j. slice_index_or (slice_set k.outputs s.group bytes) j []) own ∙ get_or-set_same k.outputs s.group bytes [] inside
              ∙ ap (λ (l : List (List ℕ)). slice_index_or l s.group [] ++ byte ∷ []) same.outputs
              ∙ ap (λ j. slice_index_or core.outputs j [] ++ byte ∷ []) (sym own);
        })
        | inr past ↦ OutputLeft.Same (ap (λ (l : List (List ℕ)). slice_index_or l g []) (set_past k.outputs s.group bytes past) ∙ was)
      ]
      | inr ne ↦ OutputLeft.Same (get_or-set_other k.outputs s.group g bytes [] ne ∙ was)
    ]

-- 3. The turn of a slot that runs.

module _ (core : Core) (h : IsFormed core) (match : Matches core) (s : Slot) (at : slot_at core s.number ≡ Some s) (running : is_running s.state ≡ true) where
  abbrev All : Memory → Turned → Type 0
  All m t = LeavesAll core m t

  own_turn : (m : Memory) (t : Turned) → t.step.slot ≡ s.number → Leaves core t.core s.number t.step.tick → All m t
  own_turn m t e left = (subst (λ k. Leaves core t.core k t.step.tick) (sym e) left, λ none. cc (at, ap (slot_at core) e, none))

  -- a fault: the slot waits and its handler's queue gets an event, or it is halted or runs on
  event_leaves : (e : Event) (c : Cause) (g : ℕ) → s.handler ≡ Some g → (n : ℕ) → n ≡ g
      → let waits = put_slot core (stood s Waiting) in QueueLeft core (put_queue waits g (queue_at waits g ++ e ∷ [])) s.number (Faulted c) n
  event_leaves e c g is n same = by (slot_at (put_slot core (stood s Waiting)) g) refl
    where
      by : (o : Option Slot) → slot_at (put_slot core (stood s Waiting)) g ≡ o → QueueLeft core (put_queue (put_slot core (stood s Waiting)) g (queue_at (put_slot core (stood s Waiting)) g ++ e ∷ [])) s.number (Faulted c) n
      by None none =
          let one : Core = put_slot core (stood s Waiting) in
          let q : List Event = queue_at one g ++ e ∷ [] in
          QueueLeft.Same (ap (queue_at (put_queue one g q)) same
          ∙ queue_none (put_queue one g q) g (slot_at-put_queue one g q g ∙ none)
          ∙ sym (queue_none one g none) ∙ queue_at-put_slot core (stood s Waiting) g ∙ ap (queue_at core) (sym same))
      by (Some t) some =
          let one : Core = put_slot core (stood s Waiting) in
          let q : List Event = queue_at one g ++ e ∷ [] in
          QueueLeft.Added (record {
            slot = s;
            there = at;
            handler = is ∙ ap (λ (k : ℕ). Some k) (sym same);
            cause = c;
            faults = refl;
            event = e;
            is = ap (queue_at (put_queue one g q)) same ∙ queue_at-put_same one g q t some
                ∙ ap (λ (es : List Event). es ++ e ∷ []) (queue_at-put_slot core (stood s Waiting) g ∙ ap (queue_at core) (sym same));
          })

  faulted_leaves : (e : Event) (c : Cause) (o : Option ℕ) → e.cause ≡ c → s.handler ≡ o → Leaves core (core_faulted core s e o) s.number (tick_faulted c o)
  unfolding core_faulted
  faulted_leaves e c (Some g) cause is =
      let waits : Core = put_slot core (stood s Waiting) in
      let q : List Event = queue_at waits g ++ e ∷ [] in
      record {
        slots = own_put core s.number (stood s Waiting) refl (put_queue waits g q)
            (λ n ne. slot_at-put_queue waits g q n ∙ put_others core s.number (stood s Waiting) refl core n ne);
        queues = λ n. elim (cases_eq n g) [
          | inl same ↦ event_leaves e c g is n same
          | inr ne ↦ QueueLeft.Same (queue_at-put_other waits g q n ne ∙ queue_at-put_slot core (stood s Waiting) n)
        ];
        outputs = λ k. OutputLeft.Same (same_output core (core_faulted core s e (Some g)) (fault_same core s e (Some g)) k);
      }
  faulted_leaves e c None cause is = by (is_sync e.cause)
    where
      by : (b : Bool) → Leaves core (if b then put_slot core (stood s Running) else put_slot core (stood s (Halted (Some e.cause)))) s.number (tick_faulted c None)
      by true = own_leaves core s.number (stood s Running) refl (tick_faulted c None)
      by false = own_leaves core s.number (stood s (Halted (Some e.cause))) refl (tick_faulted c None)

  fault_leaves : (m : Memory) (c : Cause) (a v : Word) (f t : Option AccessValue) (us : List Use) → All m (faulted core m s c a v f t us)
  unfolding faulted event_of
  fault_leaves m c a v f t us = own_turn m (faulted core m s c a v f t us) refl (faulted_leaves (event_of s c a v) c s.handler refl refl)

  -- the slot waits, with its oldest load delivered or not
  block_leaves : (m : Memory) (x : Slot) → x.number ≡ s.number → (f : AccessValue) (t : Option AccessValue) (us : List Use) → All m (blocked core m x f t us)
  unfolding blocked
  block_leaves m x e f t us = own_turn m (blocked core m x f t us) e (own_leaves core s.number (stood x Running) e Blocked)

  serves_other : (o : Slot) → OtherKeeps core s.number o → Serves core s.number o
  serves_other o k = record { replaces = k.replaces; handler = k.served; rests = k.runs_not; turns = k.turns }

  deliver_leaves : (m : Memory) (o : Slot) → OtherKeeps core s.number o → (f : AccessValue) (t : Option AccessValue) (us : List Use) → All m (blocked (put_slot core o) m s f t us)
  unfolding blocked
  deliver_leaves m o k f t us = own_turn m (blocked (put_slot core o) m s f t us) refl (both_leave core s.number (stood s Running) refl o (serves_other o k) Blocked)

  -- 4. A change.

  module _ (c : Change) (moves : Moves core s.number c) where
    abbrev own : Slot
    own = slot_after s c

    number : (slot_after s c).number ≡ s.number
    number = (changed_from s c).number

    serves : (o : Slot) → c.other ≡ Some o → Serves core s.number o
    serves o e = by moves
      where
        by : Moves core s.number c → Serves core s.number o
        by (Moves.keeps_all a b) = cc (b, e)
        by (Moves.frees p f a b) =
            let two : ◌≡◌ {A = Option Slot} (Some p) (Some o) = sym b ∙ e in
            let one : p ≡ o = cc in
            subst (Serves core s.number) one (serves_other p f)
        by (Moves.takes_event p rest t a b) =
            let two : ◌≡◌ {A = Option Slot} (Some p) (Some o) = sym b ∙ e in
            let one : p ≡ o = cc in
            let waits = waited core p s.number t.event rest h t.replaces t.queue t.slot t.waits_not s at match in
            subst (Serves core s.number) one (record { replaces = t.replaces; handler = waits.1; rests = event_waited core h s at running p rest t match; turns = t.turns })

    -- what it takes from its queue
    record Oldest (q : List Event) : Type 0 where
      event : Event
      was : queue_at core s.number ≡ event ∷ q

    oldest : (q : List Event) → c.queue ≡ Some q → Oldest q
    oldest q e = by moves
      where
        by : Moves core s.number c → Oldest q
        by (Moves.keeps_all a b) = cc (a, e)
        by (Moves.frees p f a b) = cc (a, e)
        by (Moves.takes_event p rest t a b) =
            let two : ◌≡◌ {A = Option (List Event)} (Some rest) (Some q) = sym a ∙ e in
            let one : rest ≡ q = cc in
            record { event = t.event; was = t.queue ∙ ap (λ (es : List Event). t.event ∷ es) one }

    abbrev mid : Option Slot → Option (List Event) → Core
    mid o q = with_queue (put_slot (with_other core o) (slot_after s c)) s.number q

    mid_slots : (o : Option Slot) (q : Option (List Event)) (n : ℕ) → n ≢ s.number → slot_at (mid o q) n ≡ slot_at (with_other core o) n
    mid_slots o None n ne = put_others core s.number (slot_after s c) number (with_other core o) n ne
    mid_slots o (Some q) n ne = slot_at-put_queue (put_slot (with_other core o) (slot_after s c)) s.number q n ∙ put_others core s.number (slot_after s c) number (with_other core o) n ne

    other_queues : (o : Option Slot) (n : ℕ) → queue_at (with_other core o) n ≡ queue_at core n
    other_queues None n = refl
    other_queues (Some o) n = queue_at-put_slot core o n

    put_queues : (o : Option Slot) (n : ℕ) → queue_at (put_slot (with_other core o) (slot_after s c)) n ≡ queue_at core n
    put_queues o n = queue_at-put_slot (with_other core o) (slot_after s c) n ∙ other_queues o n

    change_slots : (out : Option ℕ) (o : Option Slot) (q : Option (List Event)) → c.other ≡ o → (n : ℕ) → SlotLeft core (with_out (mid o q) s.group out) s.number n
    change_slots out None q e = own_put core s.number s refl (with_out (mid None q) s.group out) (λ n ne. (out_same (mid None q) s.group out).slots n ∙ mid_slots None q n ne)
    change_slots out (Some o) q e = other_put core s.number s refl o (serves o e) (with_out (mid (Some o) q) s.group out)
        (λ n ne. (out_same (mid (Some o) q) s.group out).slots n ∙ mid_slots (Some o) q n ne)

    -- the slot is still there
    still : (o : Option Slot) → c.other ≡ o → slot_at (with_other core o) s.number ≡ Some s
    still None e = at
    still (Some o) e = let v = serves o e in still_there core h s at running o v.replaces v.rests

    change_queues : (out : Option ℕ) (o : Option Slot) (q : Option (List Event)) → c.other ≡ o → c.queue ≡ q → (tick : Tick) (n : ℕ) → QueueLeft core (with_out (mid o q) s.group out) s.number tick n
    change_queues out o None e f tick n = QueueLeft.Same ((out_same (mid o None) s.group out).queues n ∙ put_queues o n)
    change_queues out o (Some q) e f tick n = elim (cases_eq n s.number) [
      | inl same ↦
          let k : Core = put_slot (with_other core o) (slot_after s c) in
          let old = oldest q f in
          let there : slot_at k s.number ≡ Some (slot_after s c) = ap (slot_at k) (sym number) ∙ slot_at-put_same (with_other core o) (slot_after s c) s (ap (slot_at (with_other core o)) number ∙ still o e) in
          QueueLeft.Taken same (record {
            event = old.event;
            rest = q;
            was = ap (queue_at core) same ∙ old.was;
            is = (out_same (mid o (Some q)) s.group out).queues n ∙ ap (queue_at (mid o (Some q))) same ∙ queue_at-put_same k s.number q (slot_after s c) there;
          })
      | inr ne ↦ QueueLeft.Same ((out_same (mid o (Some q)) s.group out).queues n ∙ queue_at-put_other (put_slot (with_other core o) (slot_after s c)) s.number q n ne ∙ put_queues o n)
    ]

    change_outputs : (out : Option ℕ) (k : Core) → SameButRows core k → (g : ℕ) → OutputLeft core (with_out k s.group out) s.number g
    change_outputs None k same g = OutputLeft.Same (same_output core k same g)
    change_outputs (Some byte) k same g = byte_leaves core k same s at byte g

    change_leaves : (tick : Tick) → Leaves core (core_after core s c) s.number tick
    unfolding core_after
    change_leaves tick = record {
      slots = change_slots c.out c.other c.queue refl;
      queues = change_queues c.out c.other c.queue refl refl tick;
      outputs = change_outputs c.out (mid c.other c.queue) (moved_same core c.other (slot_after s c) s.number c.queue);
    }

  -- 5. An instruction.

  ended_leaves : (m : Memory) (i : Instr) (f : AccessValue) (t : Option AccessValue) (us : List Use) (x : Effect) → EffectKeeps core s x → All m (ended core m s i f t us x)
  unfolding ended
  ended_leaves m i f t us (Fault c) k = fault_leaves m c (addr_operand i s) (value_operand i s) (Some f) t us
  ended_leaves m i f t us Block k = block_leaves m s refl f t us
  ended_leaves m i f t us (Deliver o) k = deliver_leaves m o k f t us
  ended_leaves m i f t us (Do c) k = own_turn m (ended core m s i f t us (Do c)) refl (change_leaves c k.moves Did)

-- 6. The turn.

memory_left : (m later : Memory) (touched : Option AccessValue) → MemoryMoves m later touched → MemoryLeft m later touched
memory_left m later touched (Stays e) = MemoryLeft.Same e
memory_left m later touched (Writes w) = MemoryLeft.Written w.access w.cell w.is w.kind w.memory
memory_left m later touched (Maps p) = MemoryLeft.Mapped p.page p.could p.memory
memory_left m later touched (Removes p) = MemoryLeft.Unmapped p.page p.was p.memory

idle_leaves : (core : Core) (m : Memory) (k : ℕ) → LeavesAll core m (idle core m k)
unfolding idle
idle_leaves core m k = (
  record { slots = λ n. SlotLeft.Same refl; queues = λ n. QueueLeft.Same refl; outputs = λ g. OutputLeft.Same refl },
  λ none. (refl, refl),
)

arrive_leaves : (core : Core) (m : Memory) (s : Slot) → slot_at core s.number ≡ Some s → (p : Pending) (rest : List Pending) → LeavesAll core m (arrives core m s (p ∷ rest))
arrive_leaves core m s at p rest = (own_leaves core s.number (delivered s) (delivered_from s).number (Delivered p.reg), λ none. cc (at, none))

rows_leave : (core : Core) (m : Memory) → IsFormed core → Matches core → (n : ℕ) → LeavesAll core m (turn core m n)
unfolding executed
rows_leave core m h match n = turn_by core m n (LeavesAll core m) (record {
  idles = λ k none. idle_leaves core m k;
  arrives_at = λ s p rest free port is. arrive_leaves core m s port.at p rest;
  starts = λ s r own. started_one core m s (LeavesAll core m) (record {
    faults = λ c f done aim. fault_leaves core h match s own r.running m c (Int 0) (Int 0) f None (fetch_uses f done);
    lacks_register = λ f i aim is lacking. block_leaves core h match s own r.running m (delivered s) (delivered_from s).number f None (fetch_use f ∷ []);
    carries_out = λ f i aim is has.
        ended_leaves core h match s own r.running m i f (touch_of (ask i s)) (fetch_use f ∷ asked_use m (ask i s)) (effect core.split i s (reply core m s.number (ask i s)))
        (row_keeps core h s own m i is.whole has);
  });
})

pub turn_leaves : (core : Core) (m : Memory) → IsFormed core → Matches core → (n : ℕ) → LeavesTheRest core m (turn core m n)
turn_leaves core m h match n =
    let rows = rows_leave core m h match n in
    let changes = turn_changes core m n in
    record {
      slots = rows.0.slots;
      queues = rows.0.queues;
      outputs = rows.0.outputs;
      memory = memory_left m (turn core m n).memory (turn core m n).step.touched changes.memory;
      version = changes.version;
      split = changes.split;
      nobody = rows.1;
    }
