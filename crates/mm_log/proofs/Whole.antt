-- What a turn showed tells all that it changes: the lines of a cycle are the differences of its two states.
use Rattle.std.proofs.Common.{◌≡◌, ◌≢◌, ℕ, ◌-◌, ◌<◌, ◌≤◌, inl, inr, Bool, true, false, ◌&&◌, nat_le, if◌then◌else◌}
use Rattle.std.proofs.Common.{List, [], ◌∷◌, ◌++◌, length, map, Option, Some, None, Result, Ok, Err, pos, refl, sym, ap}
use Rattle.std.proofs.{Common.{◌∙◌, subst, arith, append_assoc, slice_index_or, get_or-set_other}, Math.Seq.drop-length}
use Rattle.std.proofs.{Props.props, Math.Logic.∥∥₁_elim, lemmas.Bool.cases_eq}
use Rattle.std.specs.{Prelude.IfSome, List.AllByRecursion}
use Rattle.mm_word.specs.declared.{perm.Kind.TheVariants.Fetch}
use Rattle.mm_word.specs.declared.cause.Cause.{Cause, TheVariants.{Bounds, NoPage, Illegal, NoSlot}}
use Rattle.mm_word.specs.{declared.word.{Word.{Word, TheVariants.{Int, Ptr}}, Cell.Cell}, Access.{AccessValue, check_result}}
use Rattle.mm_isa.specs.declared.instr.Instr.{Instr}
use Rattle.mm_isa.specs.declared.instr.Instr.TheVariants.{Halt, Nop, Out, St, Br, Bz, Bnz, Jmp, Trap, Evt, Resume, Rreg, Wreg}
use Rattle.mm_isa.{specs.Table.IsInstr, proofs.Spelling.instr_of-spelled}
use Rattle.mm_model.specs.declared.slot.{SlotState.{SlotState, TheVariants.{Running, Waiting, Taken, Halted}}, Pending.Pending}
use Rattle.mm_model.specs.declared.event.Event.{Event}
use Rattle.mm_model.specs.declared.step.{Step.Step, Tick.{Tick, TheVariants.{Idle, Did, Blocked, Faulted, Delivered}}}
use Rattle.mm_model.specs.{Memory.{Memory, cell_at, IsPaged}, Uses.{Use, Accessed}, Slot.{Slot, register, is_empty}}
use Rattle.mm_model.specs.State.{Core, State, slot_at, queue_at, put_slot, put_queue, output_of, put_output}
use Rattle.mm_model.specs.{Fits.{IsOfVersion, IsSlot, IsFormed, LoadsMatch}, Operands.{fields_d, lacks}}
use Rattle.mm_model.specs.Ask.{Ask, ask, Ask.Nothing}
use Rattle.mm_model.specs.Effect.{Reply, Change, Effect, effect, delivered, Reply.{Refused, Served}, Effect.{Fault, Block, Deliver, Do}}
use Rattle.mm_model.specs.Turn.{Turned, reply, served, is_handler, is_taken, slot_after, with_other, with_queue, with_out}
use Rattle.mm_model.specs.Turn.{core_after, memory_after, stood, is_sync, tick_faulted}
use Rattle.mm_model.specs.Turn.{event_of, core_faulted, faulted, touch_of, asked_use, blocked, ended, executed, issued}
use Rattle.mm_model.specs.Turn.{decoded, instr_in, fetched, aimed, started, idle, arrives, port_of, taken_by_port, taken_by}
use Rattle.mm_model.specs.{Turn.{is_running, turn}, Run.{turn_of, after}, Trace.{turns_of, step_line}}
use Rattle.mm_model.proofs.CoreRows.{slot_at-number, slot_at-put_same, slot_at-put_other, slot_at-put_queue, queue_at-put_slot}
use Rattle.mm_model.proofs.{CoreRows.slot_has, CoreSteps.Fitting, SlotSteps.delivered_from, TurnKeeps.changed_from}
use Rattle.mm_model.proofs.{Fitted.{fitting_of, core_of, paged_of}, Shortness.loads_small}
use Rattle.mm_machine.specs.Validity.{IsValid}
use Rattle.mm_thread.specs.Told.{There, Told, was_of, oldest, other_registers, cell_there, slot_there, event_there}
use Rattle.mm_thread.specs.Told.{there_at, there_for}
use Rattle.mm_thread.specs.Told.{told_waiting, told_executing, told_at, operands_in, event_in, in_cell, found_by, comes_to}
use Rattle.mm_thread.specs.Told.{told_by_port, told_by, told_of}
use Rattle.mm_log.specs.{Lines.{Line, line_text, Line.Puts}, Log.{turns_in, told, cycle_log, text_of}}
use Rattle.mm_log.specs.Changes.{changes_between, each_number, slots_changed, queued_at, read_at, put_out_by}
use Rattle.mm_log.specs.Changes.{pages_mapped, pages_removed, cells_changed, changes}
use Rattle.mm_log.specs.Seen.{slots_seen, queued_seen, read_seen, out_seen, page_seen, seen, seen_by}
use Rattle.mm_thread.proofs.Rows.{MemoryMove, OtherMove, OtherMoves, ChangeMoves, EffectMoves, effect_moves}
use Rattle.mm_thread.proofs.Writes.{Spares, SameAt, same_at, OtherKeeps, ChangeKeeps, RowKeeps, delivered_leaves, after_leaves}
use Rattle.mm_thread.proofs.Writes.{row_keeps}
use Rattle.mm_thread.proofs.Moves.{put_outs, fault_outs, turn_moves}
use Rattle.mm_log.{specs.Replay.is_turn, proofs.{Numbers.{no_number, changes_self}, Pages.{MemoryTold, memory_told}}}
use Rattle.mm_log.proofs.{Left.{AreNamed, Kept}, Beside.{IsThere, Apart, other_shown, slots_seen_by, outs_seen_by}}
use Rattle.mm_log.proofs.Memories.{TellsMemory, memory_seen, same_seen, nothing_seen}
use Rattle.mm_log.proofs.Events.{none_queued, none_read, before_there, mid_there, fault_events, change_events}

-- 1. What was shown.

-- the registers of a slot that a turn can change

first_named : (ps : List Pending) → AllByRecursion (λ (p : Pending). p.reg < 16) ps → AreNamed (oldest ps)
first_named [] h = AreNamed.none
first_named (p ∷ rest) h = AreNamed.one p.reg h.0

fields_named : (i : Instr) → IsInstr i → AreNamed (fields_d i)
fields_named Halt h = AreNamed.none
fields_named Nop h = AreNamed.none
fields_named (Out ra) h = AreNamed.none
fields_named (St ra rb pre post imm) h = AreNamed.none
fields_named (Br imm) h = AreNamed.none
fields_named (Bz ra imm) h = AreNamed.none
fields_named (Bnz ra imm) h = AreNamed.none
fields_named (Jmp ra) h = AreNamed.none
fields_named (Trap imm) h = AreNamed.none
fields_named (Resume ra how) h = AreNamed.none
fields_named (Wreg ra rb reg) h = AreNamed.none
fields_named (Evt rd) h = AreNamed.four rd (let low : rd ≤ 12 = h.operands.0 in omega arith)
fields_named _ h = AreNamed.one _ h.operands.0

-- a word that spells an instruction spells a whole one
spelled : (w : Word) (i : Instr) → instr_in w ≡ Some i → IsInstr i
spelled (Int bits) i is = (instr_of-spelled bits i is).0
spelled (Ptr p) i is = cc

-- a slot that stands keeps its registers
stood_as : (was x : Slot) (state : SlotState) (k : ℕ) → SameAt k was x → SameAt k was (stood x state)
unfolding register is_empty
stood_as was x state k same = record { word = same.word; flag = same.flag }

taken_same : (k : ℕ) (x : Slot) → SameAt k x (record x { state = Taken })
unfolding register is_empty
taken_same k x = record { word = refl; flag = refl }

faulted_reads : (b : Told) (c : Cause) (h : Option ℕ) → read_seen b (tick_faulted c h) ≡ []
faulted_reads b c (Some h) = refl
faulted_reads b c None = by (is_sync c)
  where
    by : (x : Bool) → read_seen b (if x then Blocked else Faulted c) ≡ []
    by true = refl
    by false = refl

module _ (core : Core) (m : Memory) (formed : IsFormed core) (fit : Fitting core) (paged : IsPaged m) where
  -- what was shown tells all that the turn changes
  pub record Tells (b : Told) (t : Turned) : Type 0 where
    pub slots : slots_changed core t.core ≡ slots_seen t.core b
    pub queued : each_number (queued_at core t.core) ≡ queued_seen t.core b t.step.tick
    pub read : each_number (read_at core t.core) ≡ read_seen b t.step.tick
    pub outs : each_number (put_out_by core t.core) ≡ out_seen t.core b
    pub memory : TellsMemory core m paged t.memory b.there

  oldest_named : (of : Slot) → slot_at core of.number ≡ Some of → AreNamed (oldest of.pending)
  oldest_named of is = first_named of.pending (loads_small of (slot_has IsSlot core of.number of formed.slots is) (slot_has LoadsMatch core of.number of fit.matched.loads is))

  module _ (s : Slot) (at : slot_at core s.number ≡ Some s) (low : s.group < 64) where
    -- the parts of what was shown, and what is known of them
    record Parts : Type 0 where
      registers : List ℕ
      named : AreNamed registers
      others : Slot → List ℕ
      instr : Option Instr
      beside : There
      known : IsThere core others beside
      stays : TellsMemory core m paged m beside

    abbrev told_parts : Parts → Told
    told_parts p = record { own = was_of s p.registers; group = s.group; instr = p.instr; there = p.beside; output = length (output_of core s.group) }

    abbrev waiting : Option Instr → Parts
    waiting i = record {
      registers = oldest s.pending;
      named = oldest_named s at;
      others = λ of. [];
      instr = i;
      beside = There.Nothing;
      known = tt;
      stays = nothing_seen core m paged;
    }

    -- 2. A turn that changes no other slot.

    -- a slot is there once it was put back
    put_there : (x : Slot) → x.number ≡ s.number → slot_at (put_slot core x) s.number ≡ Some x
    put_there x number = ap (slot_at (put_slot core x)) (sym number) ∙ slot_at-put_same core x s (ap (slot_at core) number ∙ at)

    stood_kept : (rs : List ℕ) (state : SlotState) (o : Option Slot) → o ≡ Some (stood s state) → Kept s rs o
    stood_kept rs state o is = subst (Kept s rs) (sym is) (λ k h. stood_as s s state k (same_at k s))

    fault_own : (rs : List ℕ) (e : Event) (o : Option ℕ) → Kept s rs (slot_at (core_faulted core s e o) s.number)
    unfolding core_faulted
    fault_own rs e (Some h) =
        let waits : Core = put_slot core (stood s Waiting) in
        stood_kept rs Waiting (slot_at (put_queue waits h (queue_at waits h ++ e ∷ [])) s.number)
        (slot_at-put_queue waits h (queue_at waits h ++ e ∷ []) s.number ∙ slot_at-put_same core (stood s Waiting) s at)
    fault_own rs e None = by (is_sync e.cause)
      where
        by : (b : Bool) → Kept s rs (slot_at (if b then put_slot core (stood s Running) else put_slot core (stood s (Halted (Some e.cause)))) s.number)
        by true = stood_kept rs Running (slot_at (put_slot core (stood s Running)) s.number) (slot_at-put_same core (stood s Running) s at)
        by false = stood_kept rs (Halted (Some e.cause)) (slot_at (put_slot core (stood s (Halted (Some e.cause)))) s.number) (slot_at-put_same core (stood s (Halted (Some e.cause))) s at)

    fault_still : (e : Event) (o : Option ℕ) (k : ℕ) → k ≢ s.number → slot_at (core_faulted core s e o) k ≡ slot_at core k
    unfolding core_faulted
    fault_still e (Some h) k ne =
        let waits : Core = put_slot core (stood s Waiting) in
        slot_at-put_queue waits h (queue_at waits h ++ e ∷ []) k ∙ slot_at-put_other core (stood s Waiting) k ne
    fault_still e None k ne = by (is_sync e.cause)
      where
        by : (b : Bool) → slot_at (if b then put_slot core (stood s Running) else put_slot core (stood s (Halted (Some e.cause)))) k ≡ slot_at core k
        by true = slot_at-put_other core (stood s Running) k ne
        by false = slot_at-put_other core (stood s (Halted (Some e.cause))) k ne

    module _ (p : Parts) where
      abbrev Shows : Turned → Type 0
      Shows t = Tells (told_parts p) t

      -- the slots after the turn
      record Leaves (later : Core) : Type 0 where
        own : Kept s p.registers (slot_at later s.number)
        others : (of : Slot) → slot_at core of.number ≡ Some of → s.number ≢ of.number → Kept of (p.others of) (slot_at later of.number)
        rest : (k : ℕ) → k ≢ s.number → Apart k p.beside → slot_at later k ≡ slot_at core k

      own_leaves : (later : Core) → Kept s p.registers (slot_at later s.number) → ((k : ℕ) → k ≢ s.number → slot_at later k ≡ slot_at core k) → Leaves later
      own_leaves later own still = record {
        own = own;
        others = λ of is ne. subst (Kept of (p.others of)) (sym (still of.number (λ e. ne (sym e)) ∙ is)) (λ k h. same_at k of);
        rest = λ k ne apart. still k ne;
      }

      slots_told : (later : Core) → Leaves later → slots_changed core later ≡ slots_seen later (told_parts p)
      slots_told later l = slots_seen_by core formed s at later p.registers p.named l.own p.others l.others p.beside p.known l.rest

      same_outs : (later : Core) → later.outputs ≡ core.outputs → each_number (put_out_by core later) ≡ out_seen later (told_parts p)
      unfolding output_of
      same_outs later same = outs_seen_by core formed s at later low (λ g ne. ap (λ (xs : List (List ℕ)). slice_index_or xs g []) same)

      fault_tells : (c : Cause) (f u : Option AccessValue) (us : List Use) → Shows (faulted core m s c (operands_in s p.instr).0 (operands_in s p.instr).1 f u us)
      unfolding faulted event_of
      fault_tells c f u us =
          let e : Event = event_in s p.instr c in
          let later : Core = core_faulted core s e s.handler in
          let events = fault_events core m formed fit s at p.instr c e refl refl s.handler refl in
          record {
            slots = slots_told later (own_leaves later (fault_own p.registers e s.handler) (fault_still e s.handler));
            queued = events.0;
            read = events.1 ∙ sym (faulted_reads (told_parts p) c s.handler);
            outs = same_outs later (fault_outs core s e s.handler);
            memory = p.stays;
          }

      -- a turn that changes slots alone
      slots_tell : (t : Turned) → Leaves t.core → ((h : ℕ) → queue_at t.core h ≡ queue_at core h) → t.core.outputs ≡ core.outputs → t.memory ≡ m
          → (queued_seen t.core (told_parts p) t.step.tick ≡ []) × (read_seen (told_parts p) t.step.tick ≡ []) → Shows t
      slots_tell t l queues outs memory quiet = record {
        slots = slots_told t.core l;
        queued = none_queued core t.core queues ∙ sym quiet.0;
        read = none_read core t.core queues ∙ sym quiet.1;
        outs = same_outs t.core outs;
        memory = subst (λ (x : Memory). TellsMemory core m paged x p.beside) (sym memory) p.stays;
      }

      blocked_tells : (x : Slot) → x.number ≡ s.number → ((k : ℕ) → Spares p.registers k → SameAt k s x) → (f : AccessValue) (u : Option AccessValue) (us : List Use) → Shows (blocked core m x f u us)
      unfolding blocked
      blocked_tells x number same f u us =
          let later : Core = put_slot core (stood x Running) in
          slots_tell (blocked core m x f u us)
          (own_leaves later (subst (Kept s p.registers) (sym (put_there (stood x Running) number)) (λ k h. stood_as s x Running k (same k h))) (λ k ne. slot_at-put_other core (stood x Running) k (λ e. ne (e ∙ number))))
          (queue_at-put_slot core (stood x Running)) (put_outs core (stood x Running)) refl (refl, refl)

    -- a delivery

    arrived_tells : (q : Pending) (rest : List Pending) → Shows (waiting None) (arrives core m s (q ∷ rest))
    arrived_tells q rest =
        let number = (delivered_from s).number in
        slots_tell (waiting None) (arrives core m s (q ∷ rest))
        (own_leaves (waiting None) (put_slot core (delivered s)) (subst (Kept s (oldest s.pending)) (sym (put_there (delivered s) number)) (delivered_leaves s)) (λ k ne. slot_at-put_other core (delivered s) k (λ e. ne (e ∙ number))))
        (queue_at-put_slot core (delivered s)) (put_outs core (delivered s)) refl (refl, refl)

    idle_tells : (n : ℕ) → Shows (waiting None) (idle core m n)
    unfolding idle
    idle_tells n = slots_tell (waiting None) (idle core m n)
        (own_leaves (waiting None) core (subst (Kept s (oldest s.pending)) (sym at) (λ k h. same_at k s)) (λ k ne. refl)) (λ h. refl) refl refl (refl, refl)

    -- 3. An instruction that is carried out.

    module _ (i : Instr) (whole : IsInstr i) where
      abbrev os : Slot → List ℕ
      os of = other_registers core.split i of

      other_named : (of : Slot) → slot_at core of.number ≡ Some of → AreNamed (os of)
      other_named of is = by i whole
        where
          by : (i : Instr) → IsInstr i → AreNamed (other_registers core.split i of)
          by (Rreg rd ra reg) h = oldest_named of is
          by (Wreg ra rb reg) h = either (core.split && is_empty of reg)
            where
              either : (b : Bool) → AreNamed (if b then oldest of.pending else reg ∷ [])
              either true = oldest_named of is
              either false = AreNamed.one reg h.operands.1.1.0
          by _ h = AreNamed.none

      slot_known : (k : ℕ) (o : Option Slot) → slot_at core k ≡ o → IsThere core os (slot_there core.split i o)
      slot_known k None is = tt
      slot_known k (Some of) is =
          let here : slot_at core of.number ≡ Some of = ap (slot_at core) (slot_at-number core k of is) ∙ is in
          record { of = of; is = refl; at = here; names = other_named of here }

      cell_known : (a : AccessValue) (o : Option Cell) → IsThere core os (cell_there a o)
      cell_known a None = tt
      cell_known a (Some c) = tt

      event_known : (q : List Event) → IsThere core os (event_there core i q)
      event_known [] = tt
      event_known (e ∷ rest) = slot_known e.slot (slot_at core e.slot) refl

      there_known : (a : Ask) → IsThere core os (there_at core m s.number i a)
      there_known (Ask.Reach a pre) = cell_known a (cell_at m a.addr)
      there_known (Ask.MapPage p) = tt
      there_known (Ask.UnmapPage p) = tt
      there_known (Ask.Serve k) = slot_known k (slot_at core k) refl
      there_known Ask.NextEvent = event_known (queue_at core s.number)
      there_known Ask.Nothing = tt
      there_known (Ask.Refuse c) = tt
      there_known (Ask.Room g) = tt

      abbrev executing : Parts
      executing = record {
        registers = fields_d i;
        named = fields_named i whole;
        others = os;
        instr = Some i;
        beside = there_for core m s i;
        known = there_known (ask i s);
        stays = same_seen core m paged s.number i (ask i s);
      }

      abbrev answer : Reply
      answer = reply core m s.number (ask i s)

      -- another slot keeps all but the registers that the row names

      of_served : (n : ℕ) (x : Option Slot) (old o : Slot) → x ≡ Some old → OtherKeeps (fields_d i) os (served n x) o → (k : ℕ) → Spares (os old) k → SameAt k old o
      of_served n None old o is h = absurd h
      of_served n (Some of) old o is h = by (is_handler n of.handler && is_taken of.state) h
        where
          same : of ≡ old
          same = cc

          by : (b : Bool) → OtherKeeps (fields_d i) os (if b then Served of else Refused NoSlot) o → (k : ℕ) → Spares (os old) k → SameAt k old o
          by true h = subst (λ (y : Slot). (k : ℕ) → Spares (os y) k → SameAt k y o) same h
          by false h = absurd h

      changed : (o : Slot) → OtherMove core s.number (ask i s) o → OtherKeeps (fields_d i) os answer o → (of : Slot) → slot_at core o.number ≡ Some of → (k : ℕ) → Spares (os of) k → SameAt k of o
      unfolding reply
      changed o (OtherMove.serves old is held move turns) keeps of here =
          of_served s.number (slot_at core o.number) of o here (subst (λ (a : Ask). OtherKeeps (fields_d i) os (reply core m s.number a) o) is keeps)
      changed o (OtherMove.takes_first old e rest is queue slot held made) keeps of here = λ k h.
          let same : old ≡ of = cc in
          subst (SameAt k of) (sym (made ∙ ap (λ (y : Slot). record y { state = Taken }) same)) (taken_same k of)

      kept_other : (o : Option Slot) → OtherMoves core s.number (ask i s) o → IfSome o (OtherKeeps (fields_d i) os answer) → (of : Slot) → slot_at core of.number ≡ Some of
          → Kept of (os of) (slot_at (with_other core o) of.number)
      kept_other None move keeps of is = subst (Kept of (os of)) (sym is) (λ k h. same_at k of)
      kept_other (Some o) move keeps of is = elim (cases_eq of.number o.number) [
        | inl e ↦
            let here : slot_at core o.number ≡ Some of = ap (slot_at core) (sym e) ∙ is in
            subst (Kept of (os of)) (sym (ap (slot_at (put_slot core o)) e ∙ slot_at-put_same core o of here)) (changed o move keeps of here)
        | inr ne ↦ subst (Kept of (os of)) (sym (slot_at-put_other core o of.number ne ∙ is)) (λ k h. same_at k of)
      ]

      other_still : (k : ℕ) (o : Option Slot) → OtherMoves core s.number (ask i s) o → Apart k (there_for core m s i) → slot_at (with_other core o) k ≡ slot_at core k
      other_still k None other apart = refl
      other_still k (Some o) other apart = slot_at-put_other core o k (other_shown core m s.number i (ask i s) o other k apart)

      helped_tells : (o : Slot) → OtherMove core s.number (ask i s) o → OtherKeeps (fields_d i) os answer o → (f : AccessValue) (u : Option AccessValue) (us : List Use)
          → Shows executing (blocked (put_slot core o) m s f u us)
      unfolding blocked
      helped_tells o other keeps f u us =
          let mid : Core = put_slot core o in
          let x = before_there core m formed fit s at (Some o) in
          slots_tell executing (blocked mid m s f u us)
          (record {
            own = stood_kept (fields_d i) Running (slot_at (put_slot mid (stood s Running)) s.number) (slot_at-put_same mid (stood s Running) x.0 x.1);
            others = λ of is ne. subst (Kept of (os of)) (sym (slot_at-put_other mid (stood s Running) of.number (λ e. ne (sym e)))) (kept_other (Some o) other keeps of is);
            rest = λ k ne apart. slot_at-put_other mid (stood s Running) k ne ∙ other_still k (Some o) other apart;
          })
          (λ h. queue_at-put_slot mid (stood s Running) h ∙ queue_at-put_slot core o h) (put_outs mid (stood s Running) ∙ put_outs core o) refl (refl, refl)

      out_same : (mid : Core) (o : Option ℕ) (k : ℕ) → slot_at (with_out mid s.group o) k ≡ slot_at mid k
      unfolding slot_at put_output
      out_same mid None k = refl
      out_same mid (Some b) k = refl

      queue_same : (mid : Core) (o : Option (List Event)) (k : ℕ) → slot_at (with_queue mid s.number o) k ≡ slot_at mid k
      queue_same mid None k = refl
      queue_same mid (Some q) k = slot_at-put_queue mid s.number q k

      change_outs : (own : Slot) (o : Option Slot) (q : Option (List Event)) (b : Option ℕ) (g : ℕ) → g ≢ s.group
          → output_of (with_out (with_queue (put_slot (with_other core o) own) s.number q) s.group b) g ≡ output_of core g
      unfolding put_slot put_queue put_output output_of
      change_outs own None None None g ne = refl
      change_outs own None (Some q) None g ne = refl
      change_outs own (Some o) None None g ne = refl
      change_outs own (Some o) (Some q) None g ne = refl
      change_outs own None None (Some b) g ne = get_or-set_other core.outputs s.group g (slice_index_or core.outputs s.group [] ++ b ∷ []) [] ne
      change_outs own None (Some q) (Some b) g ne = get_or-set_other core.outputs s.group g (slice_index_or core.outputs s.group [] ++ b ∷ []) [] ne
      change_outs own (Some o) None (Some b) g ne = get_or-set_other core.outputs s.group g (slice_index_or core.outputs s.group [] ++ b ∷ []) [] ne
      change_outs own (Some o) (Some q) (Some b) g ne = get_or-set_other core.outputs s.group g (slice_index_or core.outputs s.group [] ++ b ∷ []) [] ne

      change_leaves : (c : Change) → effect core.split i s answer ≡ Do c → OtherMoves core s.number (ask i s) c.other → ChangeKeeps (fields_d i) os answer c → Leaves executing (core_after core s c)
      unfolding core_after
      change_leaves c made other keeps =
          let own : Slot = slot_after s c in
          let mid : Core = put_slot (with_other core c.other) own in
          let number = (changed_from s c).number in
          let as_mid : (k : ℕ) → slot_at (with_out (with_queue mid s.number c.queue) s.group c.out) k ≡ slot_at mid k = λ k. out_same (with_queue mid s.number c.queue) c.out k ∙ queue_same mid c.queue k in
          record {
            own = subst (Kept s (fields_d i)) (sym (as_mid s.number ∙ mid_there core m formed fit s at i c made)) (λ k h. after_leaves s k c (keeps.own k h));
            others = λ of is ne. subst (Kept of (os of)) (sym (as_mid of.number ∙ slot_at-put_other (with_other core c.other) own of.number (λ e. ne (sym (e ∙ number))))) (kept_other c.other other keeps.other of is);
            rest = λ k ne apart. as_mid k ∙ slot_at-put_other (with_other core c.other) own k (λ e. ne (e ∙ number)) ∙ other_still k c.other other apart;
          }

      did_tells : (c : Change) → effect core.split i s answer ≡ Do c → ChangeMoves core m s (ask i s) c → ChangeKeeps (fields_d i) os answer c
          → (f : AccessValue) (u : Option AccessValue) (us : List Use) → Shows executing (ended core m s i f u us (Do c))
      unfolding ended core_after
      did_tells c made moves keeps f u us =
          let events = change_events core m formed fit s at i c made moves.queue in
          record {
            slots = slots_told executing (core_after core s c) (change_leaves c made moves.other keeps);
            queued = events.0;
            read = events.1;
            outs = outs_seen_by core formed s at (core_after core s c) low (change_outs (slot_after s c) c.other c.queue c.out);
            memory = memory_seen core m paged s.number i (ask i s) (memory_after m c) moves.memory;
          }

      ended_tells : (f : AccessValue) (u : Option AccessValue) (us : List Use) (x : Effect) → effect core.split i s answer ≡ x → EffectMoves core m s (ask i s) x → RowKeeps (fields_d i) os answer x
          → Shows executing (ended core m s i f u us x)
      unfolding ended
      ended_tells f u us (Fault c) made moves keeps = fault_tells executing c (Some f) u us
      ended_tells f u us Block made moves keeps = blocked_tells executing s refl (λ k h. same_at k s) f u us
      ended_tells f u us (Deliver o) made moves keeps = helped_tells o moves keeps f u us
      ended_tells f u us (Do c) made moves keeps = did_tells c made moves keeps f u us

      -- 4. The turn.

      issued_tells : (f : AccessValue) (u : Use) → Tells (told_at core m s (Some i)) (issued core m s f u i)
      unfolding issued executed
      issued_tells f u = by (core.split && lacks i s)
        where
          by : (b : Bool) → Tells (if b then told_waiting core s (Some i) else told_executing core m s i) (if b then blocked core m (delivered s) f None (u ∷ []) else executed core m s f u i)
          by true = blocked_tells (waiting (Some i)) (delivered s) (delivered_from s).number (delivered_leaves s) f None (u ∷ [])
          by false = ended_tells f (touch_of (ask i s)) (u ∷ asked_use m (ask i s)) (effect core.split i s answer) refl (effect_moves core m s i) (row_keeps s core.split i answer)

    abbrev ShowsAt : Option Instr → Turned → Type 0
    ShowsAt o t = Tells (told_at core m s o) t

    decoded_tells : (o : Option Instr) → ((i : Instr) → o ≡ Some i → IsInstr i) → (f : AccessValue) (u : Use) → ShowsAt o (decoded core m s f u o)
    decoded_tells None whole f u = fault_tells (waiting None) Illegal (Some f) None (u ∷ [])
    decoded_tells (Some i) whole f u = issued_tells i (whole i refl) f u

    fetched_tells : (o : Option Cell) (f : AccessValue) → ShowsAt (in_cell o) (fetched core m s f o)
    fetched_tells None f = fault_tells (waiting None) NoPage (Some f) None (Accessed f.kind f.addr false false ∷ [])
    fetched_tells (Some c) f = decoded_tells (instr_in c.word) (spelled c.word) f (Accessed f.kind f.addr true true)

    aimed_tells : (x : Result AccessValue Cause) → ShowsAt (found_by m x) (aimed core m s x)
    aimed_tells (Err c) = fault_tells (waiting None) c None None []
    aimed_tells (Ok f) = fetched_tells (cell_at m f.addr) f

    started_tells : ShowsAt (comes_to m s) (started core m s)
    unfolding started
    started_tells = by s.past
      where
        by : (b : Bool) → ShowsAt (if b then None else found_by m (check_result (Ptr s.ip) (pos 0) Fetch))
            (if b then faulted core m s Bounds (Int 0) (Int 0) None None [] else aimed core m s (check_result (Ptr s.ip) (pos 0) Fetch))
        by true = fault_tells (waiting None) Bounds None None []
        by false = aimed_tells (check_result (Ptr s.ip) (pos 0) Fetch)

    arrives_tells : (ps : List Pending) → ShowsAt None (arrives core m s ps)
    arrives_tells [] = idle_tells s.number
    arrives_tells (p ∷ rest) = arrived_tells p rest

  -- 5. The turn of an item: where nothing was shown, nothing changes.

  abbrev TellsAll : Option Told → Turned → Type 0
  TellsAll None t = (t.core ≡ core) × (t.memory ≡ m)
  TellsAll (Some b) t = Tells b t

  module _ (versions : (k : ℕ) (s : Slot) → slot_at core k ≡ Some s → s.group < 64) (n : ℕ) where
    own_at : (k : ℕ) (s : Slot) → slot_at core k ≡ Some s → slot_at core s.number ≡ Some s
    own_at k s is = ap (slot_at core) (slot_at-number core k s is) ∙ is

    port_tells : (o : Option Slot) → ((s : Slot) → o ≡ Some s → slot_at core s.number ≡ Some s) → TellsAll (told_by_port core m o) (taken_by_port core m n o)
    unfolding idle
    port_tells None at = (refl, refl)
    port_tells (Some s) at = arrives_tells s (at s refl) (versions s.number s (at s refl)) s.pending

    port_at : (s : Slot) → port_of core n ≡ Some s → slot_at core s.number ≡ Some s
    port_at s is = by (core.split && nat_le 128 n) is
      where
        by : (b : Bool) → (if b then slot_at core (n - 128) else None) ≡ Some s → slot_at core s.number ≡ Some s
        by true e = own_at (n - 128) s e
        by false e = cc

    item_tells : (o : Option Slot) → slot_at core n ≡ o → TellsAll (told_by core m n o) (taken_by core m n o)
    unfolding idle
    item_tells None is = port_tells (port_of core n) port_at
    item_tells (Some s) is = by (is_running s.state)
      where
        by : (b : Bool) → TellsAll (if b then Some (told_at core m s (comes_to m s)) else None) (if b then started core m s else idle core m n)
        by true = started_tells s (own_at n s is) (versions n s is)
        by false = (refl, refl)

    pub turn_tells : TellsAll (told_of core m n) (turn core m n)
    unfolding turn
    turn_tells = item_tells (slot_at core n) refl

-- 6. All that changes.

module _ (s : State) (n : ℕ) (k : IsValid s) where
  abbrev t : Turned
  t = turn_of s n

  fit : Fitting s.core
  fit = fitting_of k.image s k.is_image k.fits

  paged : IsPaged s.memory
  paged = paged_of k.image s k.state k.fits

  low : (j : ℕ) (x : Slot) → slot_at s.core j ≡ Some x → x.group < 64
  low j x at =
      let whole = core_of k.image s k.is_image k.state k.fits k.types in
      (slot_has (IsOfVersion 2) s.core j x whole.numbers at).group

  -- nothing where core and memory stay
  none_changed : (turn_of s n).core ≡ s.core → (turn_of s n).memory ≡ s.memory → changes s (after s n) ≡ []
  unfolding changes after
  none_changed core memory = ap (λ (c : Core). changes_of c (turn_of s n).memory) core ∙ ap (changes_of s.core) memory
      ∙ self (memory_told s.memory k.state.pages Nothing s.memory (MemoryMove.stays refl))
    where
      changes_of : Core → Memory → List Line
      changes_of c m = slots_changed s.core c ++ each_number (queued_at s.core c) ++ each_number (read_at s.core c) ++
          each_number (put_out_by s.core c) ++ pages_mapped s.memory m ++ pages_removed s.memory m ++ cells_changed
          s.memory m

      self : MemoryTold s.memory Nothing s.memory → changes_of s.core s.memory ≡ []
      self (MemoryTold.nothing is a b c) =
          ap (λ l. l ++ each_number (queued_at s.core s.core) ++ each_number (read_at s.core s.core) ++ each_number
          (put_out_by s.core s.core) ++ pages_mapped s.memory s.memory ++ pages_removed s.memory s.memory ++
          cells_changed s.memory s.memory)
          (no_number (λ j. changes_between (slot_at s.core j) (slot_at s.core j)) (λ j. changes_self (slot_at s.core j)))
          ∙ ap (λ l. l ++ each_number (read_at s.core s.core) ++ each_number (put_out_by s.core s.core) ++ pages_mapped
          s.memory s.memory ++ pages_removed s.memory s.memory ++ cells_changed s.memory s.memory)
          (none_queued s.core s.core (λ h. refl))
          ∙ ap (λ l. l ++ each_number (put_out_by s.core s.core) ++ pages_mapped s.memory s.memory ++ pages_removed
          s.memory s.memory ++ cells_changed s.memory s.memory) (none_read s.core s.core (λ h. refl))
          ∙ ap (λ l. l ++ pages_mapped s.memory s.memory ++ pages_removed s.memory s.memory ++ cells_changed s.memory
          s.memory) (no_number (put_out_by s.core s.core)
          (λ g. ap (map (Puts g)) (drop-length (output_of s.core g))))
          ∙ ap (λ l. l ++ pages_removed s.memory s.memory ++ cells_changed s.memory s.memory) a
          ∙ ap (λ l. l ++ cells_changed s.memory s.memory) b ∙ c
      self (MemoryTold.cell a pre old c is at made x y z) = cc
      self (MemoryTold.mapped p is free made x y z) = cc
      self (MemoryTold.removed p is there made x y z) = cc

  changes_seen : (o : Option Told) → TellsAll s.core s.memory k.state.core fit paged o t → changes s (after s n) ≡ seen_by (after s n) o t.step.tick
  unfolding changes seen after
  changes_seen None same = none_changed same.0 same.1
  changes_seen (Some b) tells =
      let q : List Line = each_number (queued_at s.core t.core) in
      let r : List Line = each_number (read_at s.core t.core) in
      let o : List Line = each_number (put_out_by s.core t.core) in
      let e : List Line = pages_mapped s.memory t.memory in
      let f : List Line = pages_removed s.memory t.memory in
      let g : List Line = cells_changed s.memory t.memory in
      let a1 : List Line = slots_seen t.core b in
      let a2 : List Line = queued_seen t.core b t.step.tick in
      let a3 : List Line = read_seen b t.step.tick in
      let a4 : List Line = out_seen t.core b in
      ap (λ l. l ++ q ++ r ++ o ++ e ++ f ++ g) tells.slots
      ∙ ap (λ l. a1 ++ l ++ r ++ o ++ e ++ f ++ g) tells.queued
      ∙ ap (λ l. a1 ++ a2 ++ l ++ o ++ e ++ f ++ g) tells.read
      ∙ ap (λ l. a1 ++ a2 ++ a3 ++ l ++ e ++ f ++ g) tells.outs
      ∙ ap (λ l. l ++ g) (append_assoc (a1 ++ a2 ++ a3 ++ a4) e f)
      ∙ append_assoc (a1 ++ a2 ++ a3 ++ a4) (e ++ f) g
      ∙ ap (λ l. a1 ++ a2 ++ a3 ++ a4 ++ (l ++ g)) tells.memory.0
      ∙ ap (λ l. a1 ++ a2 ++ a3 ++ a4 ++ (page_seen t.memory b.there ++ l)) tells.memory.1

  whole_seen : changes s (after s n) ≡ seen_by (after s n) (told_of s.core s.memory n) t.step.tick
  whole_seen = changes_seen (told_of s.core s.memory n) (turn_tells s.core s.memory k.state.core fit paged low n)

  -- 7. The text of a cycle.

  cycle_text : step_line (turns_in t) t.step t.step.tick ++ text_of (seen_by (after s n) (told_of s.core s.memory n) t.step.tick) ≡ text_of (cycle_log s n)
  unfolding cycle_log line_text step_line
  cycle_text = ap (λ l. step_line (turns_in t) t.step t.step.tick ++ text_of l) (sym whole_seen) ∙ by t.step.tick refl
    where
      idle_line : (turns : ℕ) (step : Step) → step_line turns step Idle ++ [] ≡ []
      idle_line turns step = refl

      by : (tick : Tick) → t.step.tick ≡ tick → step_line (turns_in t) t.step t.step.tick ++ text_of (changes s (after s n)) ≡ text_of (told (turns_in t) t.step tick (changes s (after s n)))
      by Idle e =
          let same = (turn_moves is_turn (record { did = refl; blocked = refl; faulted = λ c. refl; idle = refl }) s.core s.memory k.state.core fit n).idle e in
          ap (λ l. step_line (turns_in t) t.step t.step.tick ++ text_of l) (none_changed same.0 same.1) ∙ ap (λ x. step_line (turns_in t) t.step x ++ []) e ∙ idle_line (turns_in t) t.step
      by Did e = refl
      by Blocked e = refl
      by (Faulted c) e = refl
      by (Delivered r) e = refl

pub line_is : (s t : State) (n : ℕ) (shown : Option Told) (step : Step) (turns : ℕ) → ∥ IsValid s ∥₁
    → shown ≡ told_of s.core s.memory n → step ≡ (turn_of s n).step → t ≡ after s n → turns ≡ turns_of
    (slot_at t.core step.slot)
    → step_line turns step step.tick ++ text_of (seen_by t shown step.tick) ≡ text_of (cycle_log s n)
unfolding after
line_is s t n shown step turns kept looked is left counted =
    ap (λ (k : ℕ). step_line k step step.tick ++ text_of (seen_by t shown step.tick)) (counted ∙ ap (λ (x : State). turns_of (slot_at x.core step.slot)) left)
    ∙ ap (λ (x : State). step_line (turns_of (slot_at (turn_of s n).core step.slot)) step step.tick ++ text_of (seen_by x shown step.tick)) left
    ∙ ap (λ (x : Option Told). step_line (turns_of (slot_at (turn_of s n).core step.slot)) step step.tick ++ text_of (seen_by (after s n) x step.tick)) looked
    ∙ ap (λ (x : Step). step_line (turns_of (slot_at (turn_of s n).core x.slot)) x x.tick ++ text_of (seen_by (after s n) (told_of s.core s.memory n) x.tick)) is
    ∙ ∥∥₁_elim kept (hlevel props) (λ k. cycle_text s n k)
