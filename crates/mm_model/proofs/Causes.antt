-- What each cycle comes to, exactly, and what a fault changes.
use Rattle.std.proofs.Common.{◌≡◌, ◌≢◌, ℕ, ◌<◌, ◌↔◌, inl, inr, Bool, true, false, eq-eqb, if◌then◌else◌, List, [], ◌∷◌}
use Rattle.std.proofs.Common.{◌++◌, Option, Some, None, refl, sym, ap, ◌∙◌, subst, arith, append-nil}
use Rattle.std.proofs.lemmas.Bool.{cases_eq, ne_eqb}
use Rattle.std.specs.{Prelude.{is_some, slice_get, IfSome}, List.AllByRecursion}
use Rattle.mm_word.specs.declared.cause.Cause.{Cause}
use Rattle.mm_model.specs.declared.slot.{SlotState.{SlotState, TheVariants.{Running, Waiting, Halted}}, Pending.Pending}
use Rattle.mm_model.specs.declared.event.Event.{Event}
use Rattle.mm_model.specs.declared.step.Tick.{Tick, TheVariants.{Idle, Blocked, Did, Faulted, Delivered}}
use Rattle.mm_model.specs.{Memory.Memory, Slot.Slot, State.{Core, State, slot_at, queue_at, put_slot, put_queue}}
use Rattle.mm_model.specs.{Image.Image, Spelling.{IsOther, IsImage}}
use Rattle.mm_model.specs.Fits.{slots_of, waits_for, IsSlot, IsFormed, IsState, Fits, IsCore}
use Rattle.mm_model.specs.Turn.{Turned, is_sync, is_handler, stood, event_of, core_faulted, tick_faulted, faulted}
use Rattle.mm_model.specs.{Turn.{started, idle, turn}, Run.{turn_of, state_of, after}}
use Rattle.mm_model.specs.Tests.{Stop, first_stop, Stop.{Fault, Deliver, Block}}
use Rattle.mm_model.specs.Outcomes.{Runs, IsPort, IsIdle, Delivers, StopsAt, Waits, Blocks, Faults, Completes}
use Rattle.mm_model.specs.Outcomes.{state_faulted, FaultChanges}
use Rattle.mm_model.proofs.CoreRows.{each_map, slot_at-number, slot_at-put_same, slot_at-put_other, queue_at-put_slot}
use Rattle.mm_model.proofs.CoreRows.{slot_at-put_queue, queue_at-put_same, queue_at-put_other, slot_has, other_at}
use Rattle.mm_model.proofs.{CoreSteps.Fitting, Fitted.fitting_of, Shortness.queued_at}
use Rattle.mm_model.proofs.TurnShapes.{NamesNone, same_slot, turn_runs, turn_by}
use Rattle.mm_model.proofs.Stops.{Orphan, FaultedTurn, Stands, turn_stops}
use Rattle.mm_word.specs.declared.cause.Cause.TheVariants as cause

-- 1. What is needed of a core: slots have other numbers than ports, and the slot of a queued event and a slot's handler are there.

pub record IsOrderly (core : Core) : Type 0 where
  pub low : (n : ℕ) → is_some (slot_at core n) ≡ true → n < 128
  pub queued : (h : ℕ) → AllByRecursion (λ (e : Event). is_some (slot_at core e.slot) ≡ true) (queue_at core h)
  pub handlers : (n h : ℕ) (s : Slot) → slot_at core n ≡ Some s → s.handler ≡ Some h → is_some (slot_at core h) ≡ true

pub some_of : {A : Type 0} (o : Option A) → is_some o ≡ true → (x : A) × (o ≡ Some x)
some_of None h = absurd cc
some_of (Some x) h = (x, refl)

-- a core whose slots and events match, and whose handlers are slots
pub orderly : (core : Core) → IsFormed core → Fitting core → IsOrderly core
orderly core h fit = record {
  low = λ n there. low n (slot_at core n) refl there;
  queued = λ g. each_map (λ (e : Event). waits_for g (slot_at core e.slot) ≡ true)
      (λ (e : Event). is_some (slot_at core e.slot) ≡ true) (λ e. waiting_there g (slot_at core e.slot))
      (queue_at core g) (queued_at core fit.matched g);
  handlers = λ n g s is handler.
      let other = slot_has (λ (t : Slot). IfSome t.handler (IsOther (slots_of core) t.number)) core n s fit.handlers is in
      ap is_some (other_at core h.rising s.number g (subst (λ o. IfSome o (IsOther (slots_of core) s.number)) handler other)).1.1;
}
  where
    low : (n : ℕ) (o : Option Slot) → slot_at core n ≡ o → is_some o ≡ true → n < 128
    low n None is there = cc
    low n (Some s) is there =
        let number = slot_at-number core n s is in
        let small = (slot_has IsSlot core n s h.slots is).number in
        omega arith

    waiting_there : (g : ℕ) (o : Option Slot) → waits_for g o ≡ true → is_some o ≡ true
    waiting_there g None w = cc
    waiting_there g (Some s) w = refl

-- one of a machine
pub core_orderly : (core : Core) → IsCore core → IsOrderly core
core_orderly core h = orderly core h.formed (record { handlers = h.handlers; matched = h.matched })

-- and one of a state that fits an image
pub state_orderly : (i : Image) (s : State) → IsImage i → IsState s → Fits i s → IsOrderly s.core
state_orderly i s img h fits = orderly s.core h.core (fitting_of i s img fits)

no_orphan : (core : Core) → IsOrderly core → (n : ℕ) → Orphan core n → ⊥
no_orphan core h n o =
    let there = (subst (AllByRecursion (λ (e : Event). is_some (slot_at core e.slot) ≡ true)) o.queue (h.queued n)).0 in
    cc (ap is_some o.absent, there)

same_runner : (core : Core) (n : ℕ) (s t : Slot) → Runs core n s → Runs core n t → s ≡ t
same_runner core n s t a b = same_slot core n n s t a.at b.at refl

-- no slot has the number of a port
port_free : (core : Core) (n : ℕ) → IsOrderly core → (s t : Slot) (p : Pending) → slot_at core n ≡ Some t → ¬ (IsPort core n s p)
port_free core n h s t p is port = let lt = h.low n (ap is_some is) in let number = port.number in omega arith

-- an item that names nothing is idle
none_idle : (core : Core) (n : ℕ) → IsOrderly core → NamesNone core n → IsIdle core n
none_idle core n h none = record { no_slot = none.no_slot; no_port = by (slot_at core n) refl }
  where
    by : (o : Option Slot) → slot_at core n ≡ o → (s : Slot) (p : Pending) → ¬ (IsPort core n s p)
    by None is s p = none.no_port is s p
    by (Some t) is s p = port_free core n h s t p is

-- 2. Each outcome comes exactly there.

-- how a running slot's turn ends
data RunTick (core : Core) (m : Memory) (s : Slot) (tick : Tick) : Type 0 where
  completes : first_stop core m s ≡ None → tick ≡ Did → RunTick core m s tick
  strays : Orphan core s.number → first_stop core m s ≡ None → tick ≡ Blocked → RunTick core m s tick
  faults : (c : Cause) → first_stop core m s ≡ Some (Fault c) → (c ≡ cause.Sync → s.handler ≢ None) → tick ≡ Faulted c → RunTick core m s tick
  waits : Waits core m s → tick ≡ Blocked → RunTick core m s tick

is_sync-says : (c : Cause) → is_sync c ≡ true → c ≡ cause.Sync
is_sync-says cause.Sync h = refl
is_sync-says _ h = cc

module _ (core : Core) (m : Memory) where
  faulted_tick : (s : Slot) (c : Cause) (t : Turned) → first_stop core m s ≡ Some (Fault c) → FaultedTurn core m s c t → RunTick core m s t.step.tick
  unfolding faulted
  faulted_tick s c t stop f = by s.handler refl (ap (λ (x : Turned). x.step.tick) f.is)
    where
      alone : (b : Bool) → is_sync c ≡ b → s.handler ≡ None → t.step.tick ≡ (if b then Blocked else Faulted c) → RunTick core m s t.step.tick
      alone true sync none is = let same = is_sync-says c sync in RunTick.waits (Waits.for_bit (stop ∙ ap (λ x. Some (Fault x)) same) none) is
      alone false other none is = RunTick.faults c stop (λ same. cc (ap is_sync same, other)) is

      by : (o : Option ℕ) → s.handler ≡ o → t.step.tick ≡ tick_faulted c o → RunTick core m s t.step.tick
      by (Some h) handler is = RunTick.faults c stop (λ sync none. cc (handler, none)) is
      by None handler is = alone (is_sync c) refl handler is

  run_tick : (s : Slot) (t : Turned) (o : Option Stop) → first_stop core m s ≡ o → Stands core m s o t → RunTick core m s t.step.tick
  run_tick s t None stop (inl is) = RunTick.completes stop is
  run_tick s t None stop (inr k) = RunTick.strays k.0 stop k.1
  run_tick s t (Some (Fault c)) stop k = faulted_tick s c t stop k
  run_tick s t (Some (Deliver of)) stop is = RunTick.waits (Waits.for_load of stop) is
  run_tick s t (Some Block) stop is = RunTick.waits (Waits.for_event stop) is

-- why a turn waits is why it stops
waits_stop : (core : Core) (m : Memory) (s : Slot) → Waits core m s → (x : Stop) × (first_stop core m s ≡ Some x)
waits_stop core m s (Waits.for_load of is) = (Deliver of, is)
waits_stop core m s (Waits.for_bit is none) = (Fault cause.Sync, is)
waits_stop core m s (Waits.for_event is) = (Block, is)

waits_faults_not : (core : Core) (m : Memory) (s : Slot) (c : Cause) → Waits core m s → first_stop core m s ≡ Some (Fault c) → (c ≡ cause.Sync → s.handler ≢ None) → ⊥
waits_faults_not core m s c (Waits.for_load of is) stop handled = cc
waits_faults_not core m s c (Waits.for_bit is none) stop handled = handled (cc) none
waits_faults_not core m s c (Waits.for_event is) stop handled = cc

-- what a cycle is, with how a running slot's turn ends
data Ending (core : Core) (m : Memory) (n : ℕ) (tick : Tick) : Type 0 where
  runs : (s : Slot) → Runs core n s → RunTick core m s tick → Ending core m n tick
  delivers : (s : Slot) (p : Pending) → slot_at core n ≡ None → IsPort core n s p → tick ≡ Delivered p.reg → Ending core m n tick
  idles : NamesNone core n → tick ≡ Idle → Ending core m n tick

module _ (core : Core) (m : Memory) (n : ℕ) where
  abbrev outcome : Tick
  outcome = (turn core m n).step.tick

  ending : Ending core m n outcome
  unfolding idle
  ending = turn_by core m n (λ t. Ending core m n t.step.tick) (record {
    idles = λ k none. Ending.idles none refl;
    arrives_at = λ s p rest free port is. Ending.delivers s p free port refl;
    starts = λ s r own. Ending.runs s r (run_tick core m s (started core m s) (first_stop core m s) refl (turn_stops core m s));
  })

  pub faulted_exactly : (c : Cause) → (outcome ≡ Faulted c) ↔ Faults core m n c
  faulted_exactly c = (λ is. to is ending, λ f. from f ending)
    where
      ran : (s : Slot) → Runs core n s → outcome ≡ Faulted c → RunTick core m s outcome → Faults core m n c
      ran s r is (RunTick.completes stop tick) = cc
      ran s r is (RunTick.strays o stop tick) = cc
      ran s r is (RunTick.faults d stop handled tick) = let same : d ≡ c = cc in subst (Faults core m n) same (s, record { runs = r; stop = stop }, handled)
      ran s r is (RunTick.waits w tick) = cc

      to : outcome ≡ Faulted c → Ending core m n outcome → Faults core m n c
      to is (Ending.runs s r k) = ran s r is k
      to is (Ending.delivers s p free port tick) = cc
      to is (Ending.idles none tick) = cc

      back : (s : Slot) → first_stop core m s ≡ Some (Fault c) → (c ≡ cause.Sync → s.handler ≢ None) → RunTick core m s outcome → outcome ≡ Faulted c
      back s is handled (RunTick.completes stop tick) = cc
      back s is handled (RunTick.strays o stop tick) = cc
      back s is handled (RunTick.faults d stop also tick) = cc
      back s is handled (RunTick.waits w tick) = absurd (waits_faults_not core m s c w is handled)

      from : Faults core m n c → Ending core m n outcome → outcome ≡ Faulted c
      from f (Ending.runs s r k) =
          let same = same_runner core n f.0 s f.1.runs r in
          back s (ap (first_stop core m) (sym same) ∙ f.1.stop) (λ sync none. f.2 sync (ap (λ (x : Slot). x.handler) same ∙ none)) k
      from f (Ending.delivers s p free port tick) = cc (free, f.1.runs.at)
      from f (Ending.idles none tick) = absurd (none.no_slot f.0 f.1.runs)

  module _ (h : IsOrderly core) where
    idle_exactly : (outcome ≡ Idle) ↔ IsIdle core n
    idle_exactly = (λ is. to is ending, λ i. from i ending)
      where
        ran : (s : Slot) → outcome ≡ Idle → RunTick core m s outcome → IsIdle core n
        ran s is (RunTick.completes stop tick) = cc
        ran s is (RunTick.strays o stop tick) = cc
        ran s is (RunTick.faults d stop handled tick) = cc
        ran s is (RunTick.waits w tick) = cc

        to : outcome ≡ Idle → Ending core m n outcome → IsIdle core n
        to is (Ending.runs s r k) = ran s is k
        to is (Ending.delivers s p free port tick) = cc
        to is (Ending.idles none tick) = none_idle core n h none

        from : IsIdle core n → Ending core m n outcome → outcome ≡ Idle
        from i (Ending.runs s r k) = absurd (i.no_slot s r)
        from i (Ending.delivers s p free port tick) = absurd (i.no_port s p port)
        from i (Ending.idles none tick) = tick

    delivered_exactly : (reg : ℕ) → (outcome ≡ Delivered reg) ↔ Delivers core n reg
    delivered_exactly reg = (λ is. to is ending, λ d. from d ending)
      where
        ran : (s : Slot) → outcome ≡ Delivered reg → RunTick core m s outcome → Delivers core n reg
        ran s is (RunTick.completes stop tick) = cc
        ran s is (RunTick.strays o stop tick) = cc
        ran s is (RunTick.faults d stop handled tick) = cc
        ran s is (RunTick.waits w tick) = cc

        to : outcome ≡ Delivered reg → Ending core m n outcome → Delivers core n reg
        to is (Ending.runs s r k) = ran s is k
        to is (Ending.delivers s p free port tick) = (s, p, port, cc)
        to is (Ending.idles none tick) = cc

        from : Delivers core n reg → Ending core m n outcome → outcome ≡ Delivered reg
        from d (Ending.runs s r k) = absurd (port_free core n h d.0 s d.1 r.at d.2)
        from d (Ending.delivers s p free port tick) =
            let one = port.number in
            let two = d.2.number in
            let same = same_slot core s.number d.0.number s d.0 port.at d.2.at (omega arith) in
            let also : ◌≡◌ {A = Option Pending} (Some p) (Some d.1) = sym port.oldest ∙ ap (λ (x : Slot). slice_get x.pending 0) same ∙ d.2.oldest in
            let is = d.3 in
            cc
        from d (Ending.idles none tick) = absurd ((none_idle core n h none).no_port d.0 d.1 d.2)

    blocked_exactly : (outcome ≡ Blocked) ↔ Blocks core m n
    blocked_exactly = (λ is. to is ending, λ b. from b ending)
      where
        ran : (s : Slot) → Runs core n s → outcome ≡ Blocked → RunTick core m s outcome → Blocks core m n
        ran s r is (RunTick.completes stop tick) = cc
        ran s r is (RunTick.strays o stop tick) = absurd (no_orphan core h s.number o)
        ran s r is (RunTick.faults d stop handled tick) = cc
        ran s r is (RunTick.waits w tick) = (s, r, w)

        to : outcome ≡ Blocked → Ending core m n outcome → Blocks core m n
        to is (Ending.runs s r k) = ran s r is k
        to is (Ending.delivers s p free port tick) = cc
        to is (Ending.idles none tick) = cc

        back : (s : Slot) → Waits core m s → RunTick core m s outcome → outcome ≡ Blocked
        back s w (RunTick.completes stop tick) = let x = waits_stop core m s w in cc (x.1)
        back s w (RunTick.strays o stop tick) = tick
        back s w (RunTick.faults d stop handled tick) = absurd (waits_faults_not core m s d w stop handled)
        back s w (RunTick.waits v tick) = tick

        from : Blocks core m n → Ending core m n outcome → outcome ≡ Blocked
        from b (Ending.runs s r k) = back s (subst (Waits core m) (same_runner core n b.0 s b.1 r) b.2) k
        from b (Ending.delivers s p free port tick) = cc (free, b.1.at)
        from b (Ending.idles none tick) = absurd (none.no_slot b.0 b.1)

    did_exactly : (outcome ≡ Did) ↔ Completes core m n
    did_exactly = (λ is. to is ending, λ d. from d ending)
      where
        ran : (s : Slot) → Runs core n s → outcome ≡ Did → RunTick core m s outcome → Completes core m n
        ran s r is (RunTick.completes stop tick) = (s, r, stop)
        ran s r is (RunTick.strays o stop tick) = cc
        ran s r is (RunTick.faults d stop handled tick) = cc
        ran s r is (RunTick.waits w tick) = cc

        to : outcome ≡ Did → Ending core m n outcome → Completes core m n
        to is (Ending.runs s r k) = ran s r is k
        to is (Ending.delivers s p free port tick) = cc
        to is (Ending.idles none tick) = cc

        back : (s : Slot) → first_stop core m s ≡ None → RunTick core m s outcome → outcome ≡ Did
        back s none (RunTick.completes stop tick) = tick
        back s none (RunTick.strays o stop tick) = absurd (no_orphan core h s.number o)
        back s none (RunTick.faults d stop handled tick) = cc
        back s none (RunTick.waits w tick) = let x = waits_stop core m s w in cc (x.1)

        from : Completes core m n → Ending core m n outcome → outcome ≡ Did
        from d (Ending.runs s r k) = back s (ap (first_stop core m) (sym (same_runner core n d.0 s d.1 r)) ∙ d.2) k
        from d (Ending.delivers s p free port tick) = cc (free, d.1.at)
        from d (Ending.idles none tick) = absurd (none.no_slot d.0 d.1)

-- all five at once, of a tick
pub record EndsExactly (core : Core) (m : Memory) (n : ℕ) (tick : Tick) : Type 0 where
  pub idle : (tick ≡ Idle) ↔ IsIdle core n
  pub delivered : (reg : ℕ) → (tick ≡ Delivered reg) ↔ Delivers core n reg
  pub blocked : (tick ≡ Blocked) ↔ Blocks core m n
  pub faulted : (c : Cause) → (tick ≡ Faulted c) ↔ Faults core m n c
  pub did : (tick ≡ Did) ↔ Completes core m n

pub ends_exactly : (core : Core) (m : Memory) (n : ℕ) → IsOrderly core → EndsExactly core m n (turn core m n).step.tick
ends_exactly core m n h =
    record {
      idle = idle_exactly core m n h;
      delivered = delivered_exactly core m n h;
      blocked = blocked_exactly core m n h;
      faulted = faulted_exactly core m n;
      did = did_exactly core m n h;
    }

-- 3. What a fault changes.

module _ (core : Core) (h : IsOrderly core) (s : Slot) (at : slot_at core s.number ≡ Some s) (e : Event) where
  -- what holds of a core after the fault
  record CoreChanges (state : SlotState) (o : Option ℕ) (new : Core) : Type 0 where
    pub outputs : new.outputs ≡ core.outputs
    pub own : slot_at new s.number ≡ Some (stood s state)
    pub others : (k : ℕ) → k ≢ s.number → slot_at new k ≡ slot_at core k
    pub queues : (k : ℕ) → queue_at new k ≡ queue_at core k ++ (if is_handler k o then e ∷ [] else [])

  stands_changes : (state : SlotState) → CoreChanges state None (put_slot core (stood s state))
  unfolding put_slot
  stands_changes state = record {
    outputs = refl;
    own = slot_at-put_same core (stood s state) s at;
    others = λ k ne. slot_at-put_other core (stood s state) k ne;
    queues = λ k. queue_at-put_slot core (stood s state) k ∙ sym (append-nil (queue_at core k));
  }

  told_changes : (g : ℕ) → s.handler ≡ Some g → CoreChanges Waiting (Some g) (put_queue (put_slot core (stood s Waiting)) g (queue_at (put_slot core (stood s Waiting)) g ++ e ∷ []))
  unfolding put_slot put_queue
  told_changes g handler =
      let new : Slot = stood s Waiting in
      let waits : Core = put_slot core new in
      let q : List Event = queue_at waits g ++ e ∷ [] in
      record {
        outputs = refl;
        own = slot_at-put_queue waits g q s.number ∙ slot_at-put_same core new s at;
        others = λ k ne. slot_at-put_queue waits g q k ∙ slot_at-put_other core new k ne;
        queues = queues;
      }
    where
      there : (u : Slot) × (slot_at (put_slot core (stood s Waiting)) g ≡ Some u)
      there = elim (cases_eq g s.number) [
        | inl same ↦ (stood s Waiting, ap (slot_at (put_slot core (stood s Waiting))) same ∙ slot_at-put_same core (stood s Waiting) s at)
        | inr ne ↦ let some = some_of (slot_at core g) (h.handlers s.number g s at handler) in (some.0, slot_at-put_other core (stood s Waiting) g ne ∙ some.1)
      ]

      queues : (k : ℕ) → queue_at (put_queue (put_slot core (stood s Waiting)) g
          (queue_at (put_slot core (stood s Waiting)) g ++ e ∷ [])) k ≡ queue_at core k ++
          (if is_handler k (Some g) then e ∷ [] else [])
      queues k = elim (cases_eq g k) [
        | inl same ↦
            ap (queue_at (put_queue (put_slot core (stood s Waiting)) g (queue_at (put_slot core (stood s Waiting)) g ++ e ∷ []))) (sym same)
            ∙ queue_at-put_same (put_slot core (stood s Waiting)) g (queue_at (put_slot core (stood s Waiting)) g ++ e ∷ []) there.0 there.1
            ∙ ap (λ q. q ++ e ∷ []) (queue_at-put_slot core (stood s Waiting) g ∙ ap (queue_at core) same)
            ∙ sym (ap (λ b. queue_at core k ++ (if b then e ∷ [] else [])) (eq-eqb g k same))
        | inr ne ↦
            queue_at-put_other (put_slot core (stood s Waiting)) g (queue_at (put_slot core (stood s Waiting)) g ++ e ∷ []) k (λ is. ne (sym is))
            ∙ queue_at-put_slot core (stood s Waiting) k
            ∙ sym (append-nil (queue_at core k))
            ∙ sym (ap (λ b. queue_at core k ++ (if b then e ∷ [] else [])) (ne_eqb g k ne))
      ]

  core_changes : (o : Option ℕ) → s.handler ≡ o → CoreChanges (state_faulted e.cause o) o (core_faulted core s e o)
  unfolding core_faulted
  core_changes (Some g) handler = told_changes g handler
  core_changes None handler = by (is_sync e.cause)
    where
      by : (b : Bool) → CoreChanges (if b then Running else Halted (Some e.cause)) None (if b then put_slot core (stood s Running) else put_slot core (stood s (Halted (Some e.cause))))
      by true = stands_changes Running
      by false = stands_changes (Halted (Some e.cause))

-- the fault of the running slot that an item names changes nothing else
pub fault_changes : (old : State) (n : ℕ) (s : Slot) (c : Cause) → IsOrderly old.core → StopsAt old.core old.memory n s c → FaultChanges s c old (after old n)
unfolding after faulted event_of
fault_changes old n s c h stops =
    made (subst (FaultedTurn old.core old.memory s c) (sym (turn_runs old.core old.memory n s stops.runs))
    (subst (λ o. Stands old.core old.memory s o (started old.core old.memory s)) stops.stop (turn_stops old.core old.memory s)))
  where
    made : FaultedTurn old.core old.memory s c (turn_of old n) → FaultChanges s c old (state_of old (turn_of old n))
    made f =
        let e : Event = event_of s c f.address f.value in
        let at : slot_at old.core s.number ≡ Some s = ap (slot_at old.core) (slot_at-number old.core n s stops.runs.at) ∙ stops.runs.at in
        let k = core_changes old.core h s at e s.handler refl in
        let new : (turn_of old n).core ≡ core_faulted old.core s e s.handler = ap (λ (t : Turned). t.core) f.is in
        record {
          memory = ap (λ (t : Turned). t.memory) f.is;
          outputs = ap (λ (x : Core). x.outputs) new ∙ k.outputs;
          own = ap (λ x. slot_at x s.number) new ∙ k.own;
          others = λ j ne. ap (λ x. slot_at x j) new ∙ k.others j ne;
          event = e;
          names = (refl, refl, refl);
          queues = λ j. ap (λ x. queue_at x j) new ∙ k.queues j;
        }
