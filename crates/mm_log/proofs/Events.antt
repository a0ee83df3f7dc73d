-- What a turn showed tells the events that it queues and reads.
use Rattle.std.proofs.Common.{◌≡◌, ◌≢◌, ℕ, suc, ◌+◌, ◌<◌, ◌^◌, inl, inr, Bool, true, false, nat_lt, if◌then◌else◌, List}
use Rattle.std.proofs.Common.{[], ◌∷◌, ◌++◌, length, drop, map, Option, Some, None, Result, Ok, Err, refl, sym, ap, ◌∙◌}
use Rattle.std.proofs.{Common.{subst, arith, length-append}, lemmas.Bool.{cases_eq, Decides.nat_tests}}
use Rattle.std.{proofs.Math.{Seq.{drop-length, drop-append_seam}, ListN.drop_of_length-le}, specs.Prelude.IfSome}
use Rattle.mm_word.specs.declared.{cause.Cause.Cause, perm.Kind.TheVariants.Store, word.Pre.Pre}
use Rattle.mm_word.specs.{Access.{AccessValue, check_result}, Word.word_bits}
use Rattle.mm_isa.specs.declared.instr.Instr.{Instr, TheVariants.{Out, Ld, St, Evt, Resume, Rreg, Wreg, Map, Unmap}}
use Rattle.mm_model.specs.declared.{slot.SlotState.{SlotState, TheVariants.{Running, Waiting, Halted}}, event.Event.Event}
use Rattle.mm_model.specs.{declared.step.Tick.{Tick, TheVariants.{Blocked, Faulted}}, Memory.Memory, Slot.{Slot, register}}
use Rattle.mm_model.specs.{State.{Core, slot_at, queue_at, put_slot, put_queue, put_output}, Spelling.IsOther}
use Rattle.mm_model.specs.Fits.{slots_of, IsSlot, IsFormed}
use Rattle.mm_model.specs.Ask.{Ask, ask, is_privileged, load_kind, reaching}
use Rattle.mm_model.specs.Ask.Ask.{Refuse, MapPage, UnmapPage, NextEvent}
use Rattle.mm_model.specs.Effect.{Change, effect, takes, Effect.Do}
use Rattle.mm_model.specs.Turn.{reply, first_event, event_reply, slot_after, with_other, with_queue, with_out}
use Rattle.mm_model.specs.Turn.{core_after, stood, is_sync, event_of, core_faulted, tick_faulted}
use Rattle.mm_model.proofs.CoreRows.{slot_at-number, slot_at-put_same, slot_at-put_other, queue_at-put_slot}
use Rattle.mm_model.proofs.CoreRows.{slot_at-put_queue, queue_at-put_same, queue_at-put_other, slot_has, other_at}
use Rattle.mm_model.proofs.{CoreSteps.Fitting, TurnKeeps.changed_from}
use Rattle.mm_log.specs.{Lines.{Line, Line.{Queues, Reads}}, Changes.{each_number, queued_at, read_at}}
use Rattle.mm_thread.specs.Told.{event_in}
use Rattle.mm_model.specs.Operands.{addr_operand, value_operand}
use Rattle.mm_log.specs.Seen.{queued_for, queued_of, queued_by, read_own}
use Rattle.mm_thread.proofs.Rows.{QueueMoves}
use Rattle.mm_log.proofs.Numbers.{no_number, one_number}
use Rattle.mm_word.specs.declared.cause.Cause.TheVariants as cause

-- 1. Which instruction reads events.

reads_of_reach : (own : ℕ) (pre : Pre) (r : Result AccessValue Cause) (l : List Line) → reaching r pre ≡ NextEvent → [] ≡ l
reads_of_reach own pre (Ok a) l e = cc
reads_of_reach own pre (Err c) l e = cc

reads_of_page : (asked : Ask) (b c : Bool) (l : List Line) → (asked ≡ NextEvent → ⊥) → (if b then (if c then asked else Refuse cause.Bounds) else Refuse cause.Priv) ≡ NextEvent → [] ≡ l
reads_of_page asked true true l never e = absurd (never e)
reads_of_page asked true false l never e = cc
reads_of_page asked false c l never e = cc

event_row : (i : Instr) (s : Slot) (own : ℕ) → ask i s ≡ NextEvent → read_own (Some i) own ≡ Reads own ∷ []
unfolding ask
event_row (Evt rd) s own e = refl
event_row (Ld rd ra pre post imm) s own e = reads_of_reach own pre (check_result (register s ra) imm (load_kind post)) (Reads own ∷ []) e
event_row (St ra rb pre post imm) s own e = reads_of_reach own pre (check_result (register s ra) imm Store) (Reads own ∷ []) e
event_row (Map rd ra) s own e = reads_of_page (MapPage (word_bits (register s ra))) (is_privileged s.ip.perm) (nat_lt (word_bits (register s ra)) (2 ^ 42)) (Reads own ∷ []) (λ x. cc) e
event_row (Unmap rd ra) s own e = reads_of_page (UnmapPage (word_bits (register s ra))) (is_privileged s.ip.perm) (nat_lt (word_bits (register s ra)) (2 ^ 42)) (Reads own ∷ []) (λ x. cc) e
event_row (Out ra) s own e = cc
event_row (Resume ra how) s own e = cc
event_row (Rreg rd ra reg) s own e = cc
event_row (Wreg ra rb reg) s own e = cc
event_row _ s own e = cc

module _ (core : Core) (m : Memory) (s : Slot) where
  no_event_row : (i : Instr) (c : Change) (own : ℕ) → effect core.split i s (reply core m s.number (ask i s)) ≡ Do c → c.queue ≡ None → read_own (Some i) own ≡ []
  unfolding effect ask reply
  no_event_row (Evt rd) c own made none = by (queue_at core s.number) made
    where
      found : (e : Event) (rest : List Event) (o : Option Slot) → takes s rd (event_reply e rest o) ≡ Do c → read_own (Some (Evt rd)) own ≡ []
      found e rest None is = cc
      found e rest (Some of) is = cc

      by : (q : List Event) → takes s rd (first_event core q) ≡ Do c → read_own (Some (Evt rd)) own ≡ []
      by [] is = cc
      by (e ∷ rest) is = found e rest (slot_at core e.slot) is
  no_event_row _ c own made none = refl

-- 2. One queue.

module _ (core : Core) (later : Core) (h : ℕ) where
  same_length : (n : ℕ) → nat_lt n n ≡ false
  same_length n = grind (arith, nat_tests)

  longer : (n : ℕ) → nat_lt (n + 1) n ≡ false
  longer n = grind (arith, nat_tests)

  fewer : (n : ℕ) → nat_lt n (suc n) ≡ true
  fewer n = grind (arith, nat_tests)

  queued_same : queue_at later h ≡ queue_at core h → queued_at core later h ≡ []
  queued_same e = ap (λ l. map (Queues h) (drop (length (queue_at core h)) l)) e ∙ ap (map (Queues h)) (drop-length (queue_at core h))

  read_same : queue_at later h ≡ queue_at core h → read_at core later h ≡ []
  read_same e = ap (λ l. if nat_lt (length l) (length (queue_at core h)) then Reads h ∷ [] else []) e ∙ ap (λ b. if b then Reads h ∷ [] else []) (same_length (length (queue_at core h)))

  queued_lost : (e : Event) → queue_at core h ≡ e ∷ queue_at later h → queued_at core later h ≡ []
  queued_lost e is =
      ap (λ l. map (Queues h) (drop (length l) (queue_at later h))) is
      ∙ ap (map (Queues h)) (drop_of_length-le (queue_at later h) {i = length (e ∷ queue_at later h)} (omega arith))

  read_lost : (e : Event) → queue_at core h ≡ e ∷ queue_at later h → read_at core later h ≡ Reads h ∷ []
  read_lost e is = ap (λ l. if nat_lt (length (queue_at later h)) (length l) then Reads h ∷ [] else []) is ∙ ap (λ b. if b then Reads h ∷ [] else []) (fewer (length (queue_at later h)))

  queued_added : (e : Event) → queue_at later h ≡ queue_at core h ++ e ∷ [] → queued_at core later h ≡ Queues h e ∷ []
  queued_added e is = ap (λ l. map (Queues h) (drop (length (queue_at core h)) l)) is ∙ ap (map (Queues h)) (drop-append_seam (queue_at core h) (e ∷ []))

  read_added : (e : Event) → queue_at later h ≡ queue_at core h ++ e ∷ [] → read_at core later h ≡ []
  read_added e is =
      ap (λ l. if nat_lt (length l) (length (queue_at core h)) then Reads h ∷ [] else []) is
      ∙ ap (λ b. if b then Reads h ∷ [] else []) (ap (λ n. nat_lt n (length (queue_at core h))) (length-append (queue_at core h) (e ∷ [])) ∙ longer (length (queue_at core h)))

-- 3. All queues, by the way that a turn goes.

-- where all queues stay
module _ (core later : Core) (same : (h : ℕ) → queue_at later h ≡ queue_at core h) where
  pub none_queued : each_number (queued_at core later) ≡ []
  none_queued = no_number (queued_at core later) (λ h. queued_same core later h (same h))

  pub none_read : each_number (read_at core later) ≡ []
  none_read = no_number (read_at core later) (λ h. read_same core later h (same h))

-- the event of a fault is that of the slot after it
stood_event : (s : Slot) (state : SlotState) (instr : Option Instr) (c : Cause) → event_in (stood s state) instr c ≡ event_in s instr c
unfolding event_of addr_operand value_operand register
stood_event s state None c = refl
stood_event s state (Some i) c = refl

module _ (core : Core) (m : Memory) (formed : IsFormed core) (fit : Fitting core) (s : Slot) (at : slot_at core s.number ≡ Some s) where
  -- what is told of the events of a fault
  abbrev FaultTells : Option Instr → Core → Tick → Type 0
  FaultTells instr later tick = (each_number (queued_at core later) ≡ queued_by (slot_at later s.number) instr tick) × (each_number (read_at core later) ≡ [])

  stood_queued : (instr : Option Instr) (c : Cause) (state : SlotState) (o : Option Slot) (h : Option ℕ) → o ≡ Some (stood s state) → s.handler ≡ h → queued_of o instr c ≡ queued_for s instr c h
  stood_queued instr c state o None there is = ap (λ x. queued_of x instr c) there ∙ ap (queued_for (stood s state) instr c) is
  stood_queued instr c state o (Some h) there is = ap (λ x. queued_of x instr c) there ∙ ap (queued_for (stood s state) instr c) is ∙ ap (λ e. Queues h e ∷ []) (stood_event s state instr c)

  pub fault_events : (instr : Option Instr) (c : Cause) (e : Event) → e.cause ≡ c → e ≡ event_in s instr c → (o : Option ℕ) → s.handler ≡ o → FaultTells instr (core_faulted core s e o) (tick_faulted c o)
  unfolding core_faulted
  fault_events instr c e causes made (Some g) is =
      let waits : Core = put_slot core (stood s Waiting) in
      let queued : Core = put_queue waits g (queue_at waits g ++ e ∷ []) in
      let handlers = slot_has (λ (x : Slot). IfSome x.handler (IsOther (slots_of core) x.number)) core s.number s fit.handlers at in
      let other = other_at core formed.rising s.number g (subst (λ o. IfSome o (IsOther (slots_of core) s.number)) is handlers) in
      let there : slot_at waits g ≡ Some other.1.0 = slot_at-put_other core (stood s Waiting) g other.0 ∙ other.1.1 in
      let number = slot_at-number core g other.1.0 other.1.1 in
      let small = slot_has IsSlot core g other.1.0 formed.slots other.1.1 in
      let few : g < 64 = let low = small.number in omega arith in
      let here : queue_at queued g ≡ queue_at core g ++ e ∷ [] = queue_at-put_same waits g (queue_at waits g ++ e ∷ [])
      other.1.0 there ∙ ap (λ q. q ++ e ∷ []) (queue_at-put_slot core (stood s Waiting) g) in
      let others : (k : ℕ) → k ≢ g → queue_at queued k ≡ queue_at core k = λ k ne. queue_at-put_other waits g (queue_at waits g ++ e ∷ []) k ne ∙ queue_at-put_slot core (stood s Waiting) k in
      let now : slot_at queued s.number ≡ Some (stood s Waiting) = slot_at-put_queue waits g (queue_at waits g ++ e ∷ []) s.number ∙ slot_at-put_same core (stood s Waiting) s at in (
        one_number (queued_at core queued) g few (λ k ne. queued_same core queued k (others k ne))
            ∙ queued_added core queued g e here
            ∙ ap (λ x. Queues g x ∷ []) made
            ∙ sym (stood_queued instr c Waiting (slot_at queued s.number) (Some g) now is),
        one_number (read_at core queued) g few (λ k ne. read_same core queued k (others k ne)) ∙ read_added core queued g e here,
      )
  fault_events instr c e causes made None is = subst
      (λ (x : Cause). FaultTells instr (if is_sync x then put_slot core (stood s Running) else put_slot core (stood s (Halted (Some x)))) (if is_sync c then Blocked else Faulted c))
      (sym causes) (by (is_sync c))
    where
      by : (b : Bool) → FaultTells instr (if b then put_slot core (stood s Running) else put_slot core (stood s (Halted (Some c)))) (if b then Blocked else Faulted c)
      by true = (
        none_queued core (put_slot core (stood s Running)) (queue_at-put_slot core (stood s Running)),
        none_read core (put_slot core (stood s Running)) (queue_at-put_slot core (stood s Running)),
      )
      by false =
          let later : Core = put_slot core (stood s (Halted (Some c))) in (
            none_queued core later (queue_at-put_slot core (stood s (Halted (Some c))))
                ∙ sym (stood_queued instr c (Halted (Some c)) (slot_at later s.number) None (slot_at-put_same core (stood s (Halted (Some c))) s at) is),
            none_read core later (queue_at-put_slot core (stood s (Halted (Some c)))),
          )

  -- the slot is there, whatever slot was put back before it
  pub before_there : (o : Option Slot) → (x : Slot) × (slot_at (with_other core o) s.number ≡ Some x)
  before_there None = (s, at)
  before_there (Some o) = elim (cases_eq s.number o.number) [
    | inl e ↦ (o, ap (slot_at (put_slot core o)) e ∙ slot_at-put_same core o s (ap (slot_at core) (sym e) ∙ at))
    | inr ne ↦ (s, slot_at-put_other core o s.number ne ∙ at)
  ]

  -- an instruction that is carried out
  module _ (i : Instr) (c : Change) (made : effect core.split i s (reply core m s.number (ask i s)) ≡ Do c) where
    abbrev mid : Core
    mid = put_slot (with_other core c.other) (slot_after s c)

    mid_queue : (k : ℕ) → queue_at mid k ≡ queue_at core k
    mid_queue k = queue_at-put_slot (with_other core c.other) (slot_after s c) k ∙ by c.other
      where
        by : (o : Option Slot) → queue_at (with_other core o) k ≡ queue_at core k
        by None = refl
        by (Some o) = queue_at-put_slot core o k

    pub mid_there : slot_at mid s.number ≡ Some (slot_after s c)
    mid_there =
        let number = (changed_from s c).number in
        let x = before_there c.other in
        ap (slot_at mid) (sym number) ∙ slot_at-put_same (with_other core c.other) (slot_after s c) x.0 (ap (slot_at (with_other core c.other)) number ∙ x.1)

    out_queue : (x : Core) (o : Option ℕ) (k : ℕ) → queue_at (with_out x s.group o) k ≡ queue_at x k
    unfolding queue_at put_output
    out_queue x None k = refl
    out_queue x (Some b) k = refl

    abbrev after_queue : Option (List Event) → Core
    after_queue q = with_out (with_queue mid s.number q) s.group c.out

    queue_events : (q : Option (List Event)) → c.queue ≡ q → QueueMoves core s.number (ask i s) q
        → (each_number (queued_at core (after_queue q)) ≡ [])
        × (each_number (read_at core (after_queue q)) ≡ read_own (Some i) s.number)
    queue_events None is k =
        let same : (h : ℕ) → queue_at (after_queue None) h ≡ queue_at core h = λ h. out_queue mid c.out h ∙ mid_queue h in
        (none_queued core (after_queue None) same, none_read core (after_queue None) same ∙ sym (no_event_row core m s i c s.number made is))
    queue_events (Some q) is k =
        let here : queue_at (after_queue (Some q)) s.number ≡ q = out_queue (put_queue mid s.number q) c.out s.number ∙ queue_at-put_same mid s.number q (slot_after s c) mid_there in
        let others : (h : ℕ) → h ≢ s.number → queue_at (after_queue (Some q)) h ≡ queue_at core h = λ h ne. out_queue
        (put_queue mid s.number q) c.out h ∙ queue_at-put_other mid s.number q h ne ∙ mid_queue h in
        let lost : queue_at core s.number ≡ k.1.0 ∷ queue_at (after_queue (Some q)) s.number = k.1.1 ∙ ap (λ l. k.1.0 ∷ l) (sym here) in
        let small = slot_has IsSlot core s.number s formed.slots at in
        let few : s.number < 64 = small.number in (
          one_number (queued_at core (after_queue (Some q))) s.number few
              (λ h ne. queued_same core (after_queue (Some q)) h (others h ne)) ∙ queued_lost core
              (after_queue (Some q)) s.number k.1.0 lost,
          one_number (read_at core (after_queue (Some q))) s.number few (λ h ne. read_same core (after_queue (Some q)) h (others h ne)) ∙ read_lost core (after_queue (Some q)) s.number k.1.0 lost
              ∙ sym (event_row i s s.number k.0),
        )

    pub change_events : QueueMoves core s.number (ask i s) c.queue
        → (each_number (queued_at core (core_after core s c)) ≡ [])
        × (each_number (read_at core (core_after core s c)) ≡ read_own (Some i) s.number)
    unfolding core_after
    change_events k = queue_events c.queue refl k
