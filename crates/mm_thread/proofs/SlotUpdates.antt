-- What the rows that ask for slots and outputs leave.
use Rattle.std.proofs.Common.{◌≡◌, ◌≢◌, ℕ, ◌%◌, ◌<◌, Bool, true, false, cond, List, [], ◌∷◌, ◌++◌, length, set, drop}
use Rattle.std.proofs.Common.{Option, Some, None, Result, Ok, Err, refl, sym, ap, subst, ◌∙◌, arith}
use Rattle.std.{proofs.lemmas.List.set-get_or, specs.{Prelude.{nat_lt, ◌&&◌, slice_get}, List.AllByRecursion}}
use Rattle.mm_thread.proofs.{RunningSlots.resumed_number, Index.{slot_found, queue_found, put_slot-at, put_queue-at}}
use Rattle.mm_thread.proofs.RowIndex.{apart_in}
use Rattle.mm_thread.proofs.Cores.{slot_in-other, queue_in-slot, apart-with_slot, number-with_slot, length-with_row}
use Rattle.mm_thread.specs.declared.completion.Completion.{Completion, TheVariants.{Did, Blocked, Faulted}}
use Rattle.mm_thread.specs.Ends.{is_alone, alone, EndsAlone}
use Rattle.mm_thread.specs.SlotIndices.{no_row, row_at, slot_in, queue_in, with_slot, with_queue_in, event_writes}
use Rattle.mm_thread.specs.{Tables.AreNumbered, Execution.{Leaves, effect_in}}
use Rattle.mm_word.specs.{declared.cause.Cause.{Cause, TheVariants.{NoSlot, OutFull}}, Word.word_bits, Pointer.Pointer}
use Rattle.mm_isa.specs.declared.instr.How.{How}
use Rattle.mm_isa.specs.declared.instr.Instr.{Instr, TheVariants.{Out, Ld, St, Evt, Resume, Rreg, Wreg, Map, Unmap}}
use Rattle.mm_model.specs.declared.slot.SlotState.{SlotState, TheVariants.{Running, Waiting, Taken, Halted}}
use Rattle.mm_model.specs.{declared.event.Event.Event, Memory.Memory, Slot.{Slot, register, is_empty}}
use Rattle.mm_model.specs.State.{ThreadRow, Core, slot_at, put_slot, put_queue, output_of, put_output}
use Rattle.mm_model.specs.{Image.output_limit, Ask.{Ask, ask, Ask.Nothing}}
use Rattle.mm_model.specs.Effect.{Change, Effect, effect, plain, resumed_by, delivered}
use Rattle.mm_model.specs.Effect.{Reply.{Fine, Refused, Served}, Effect.{Fault, Block, Deliver, Do}}
use Rattle.mm_model.specs.Turn.{reply, served, is_handler, is_taken, is_running, slot_after, core_after, memory_after}
use Rattle.mm_model.specs.{Turn.{with_out, with_queue, with_other, with_cell, with_pages}, Fits.{is_waiting, IsCore}}
use Rattle.mm_model.proofs.{CoreSteps.queued_waits, SlotSteps.delivered_from, TurnKeeps.changed_from}

-- 1. An instruction that asks nothing.

pub asks_nothing : (i : Instr) (s : Slot) → is_alone i ≡ true → ask i s ≡ Nothing
unfolding ask
asks_nothing (Out ra) s h = cc
asks_nothing (Ld rd ra pre post imm) s h = cc
asks_nothing (St ra rb pre post imm) s h = cc
asks_nothing (Evt rd) s h = cc
asks_nothing (Resume ra how) s h = cc
asks_nothing (Rreg rd ra reg) s h = cc
asks_nothing (Wreg ra rb reg) s h = cc
asks_nothing (Map rd ra) s h = cc
asks_nothing (Unmap rd ra) s h = cc
asks_nothing _ s h = refl

pub replies_fine : (core : Core) (m : Memory) (i : Instr) (s : Slot) → is_alone i ≡ true → effect_in core m s i ≡ effect core.split i s Fine
unfolding reply
replies_fine core m i s h = ap (λ (a : Ask). effect core.split i s (reply core m s.number a)) (asks_nothing i s h)

-- what is told of an instruction that concerns its slot alone
abbrev pub completion_alone : Result (Option Pointer) Cause → Completion
completion_alone (Ok entered) = Did entered
completion_alone (Err c) = Faulted c

alone_goes : (ended : Result (Option Pointer) Cause) → completion_alone ended ≡ Blocked → ⊥
alone_goes (Ok entered) e = cc
alone_goes (Err c) e = cc

module _ (core : Core) (apart : AreNumbered core.rows) (p : ℕ) (within : p < length core.rows) where
  pub own_put : (c : Change) → put_slot core (slot_after (slot_in core p) c) ≡ with_slot core p (slot_after (slot_in core p) c)
  own_put c = put_slot-at core apart p within (slot_after (slot_in core p) c) (changed_from (slot_in core p) c).number

  alone_core : (c : Change) → alone c ≡ c → core_after core (slot_in core p) c ≡ with_slot core p (slot_after (slot_in core p) c)
  unfolding core_after
  alone_core c same =
      let s = slot_in core p in
      ap (λ (d : Change). with_out (with_queue (put_slot (with_other core d.other) (slot_after s c)) s.number d.queue) s.group d.out) (sym same) ∙ own_put c

  alone_memory : (m : Memory) (c : Change) → alone c ≡ c → m ≡ memory_after m c
  unfolding memory_after
  alone_memory m c same = ap (λ (d : Change). with_pages (with_cell m d.cell) d.pages) same

  leaves_alone : (m : Memory) (e : Effect) (s' : Slot) (ended : Result (Option Pointer) Cause) → EndsAlone e (slot_in core p) s' ended
      → Leaves core m (slot_in core p) e (with_slot core p s') m (completion_alone ended)
  leaves_alone m (Do c) s' ended h = record {
    core_is = ap (with_slot core p) h.slot ∙ sym (alone_core c h.alone);
    memory_is = alone_memory m c h.alone;
    completion_is = ap completion_alone h.ended;
    stays = λ e. absurd (alone_goes ended e);
  }
  leaves_alone m (Fault c) s' ended h = record {
    core_is = ap (with_slot core p) h.slot ∙ ap (λ (rows : List ThreadRow). record core { rows = rows }) (set-get_or core.rows p no_row);
    memory_is = refl;
    completion_is = ap completion_alone h.ended;
    stays = λ e. absurd (alone_goes ended e);
  }
  leaves_alone m Block s' ended h = absurd h
  leaves_alone m (Deliver other) s' ended h = absurd h

  pub alone_leaves : (m : Memory) (i : Instr) → is_alone i ≡ true → (core' : Core) (ended : Result (Option Pointer) Cause)
      → ((split : Bool) → EndsAlone (effect split i (slot_in core p) Fine) (slot_in core p) (slot_in core' p) ended) → core' ≡ with_slot core p (slot_in core' p)
      → Leaves core m (slot_in core p) (effect_in core m (slot_in core p) i) core' m (completion_alone ended)
  alone_leaves m i is core' ended ends others =
      let s = slot_in core p in
      let left = leaves_alone m (effect core.split i s Fine) (slot_in core' p) ended (ends core.split) in
      rw (replies_fine core m i s is) (record {
        core_is = others ∙ left.core_is;
        memory_is = left.memory_is;
        completion_is = left.completion_is;
        stays = λ e. absurd (alone_goes ended e);
      })

  -- 2. A byte for the group's output.

  pub room_left : (m : Memory) (ra : ℕ) → nat_lt (length (output_of core (slot_in core p).group)) (output_limit core.version) ≡ true
      → let s = slot_in core p in
      Leaves core m s (effect_in core m s (Out ra)) (put_output (with_slot core p (slot_after s (plain s))) s.group (output_of core s.group ++ (word_bits (register s ra) % 256) ∷ [])) m (Did None)
  unfolding ask reply effect core_after memory_after plain slot_after put_output output_of
  room_left m ra fits =
      let s = slot_in core p in
      let bytes : List ℕ = output_of core s.group ++ (word_bits (register s ra) % 256) ∷ [] in
      rw fits (record {
        core_is = ap (λ (k : Core). put_output k s.group (output_of k s.group ++ (word_bits (register s ra) % 256) ∷ [])) (sym (own_put (plain s)));
        memory_is = refl;
        completion_is = refl;
        stays = λ e. cc;
      })

  pub no_room_left : (m : Memory) (ra : ℕ) → nat_lt (length (output_of core (slot_in core p).group)) (output_limit core.version) ≡ false
      → let s = slot_in core p in Leaves core m s (effect_in core m s (Out ra)) core m (Faulted OutFull)
  unfolding ask reply effect
  no_room_left m ra full = rw full (record { core_is = refl; memory_is = refl; completion_is = refl; stays = λ e. cc })

  -- 3. Another slot.

  module _ (q : ℕ) (inside : q < length core.rows) (other : q ≢ p) (o : Slot) (numbered : o.number ≡ (slot_in core q).number) where
    -- the other slot and then the slot itself
    pub two_slots : (c : Change) → put_slot (put_slot core o) (slot_after (slot_in core p) c) ≡ with_slot (with_slot core q o) p (slot_after (slot_in core p) c)
    two_slots c =
        let s = slot_in core p in
        let one : Core = with_slot core q o in
        let indexed = apart-with_slot core apart q inside o numbered in
        let still : p < length one.rows = omega (arith, length-with_row core q (record (row_at core q) { slot = o })) in
        let number : (slot_after s c).number ≡ (slot_in one p).number = (changed_from s c).number ∙ sym (number-with_slot core apart q inside o numbered p within) in
        ap (λ (k : Core). put_slot k (slot_after s c)) (put_slot-at core apart q inside o numbered) ∙ put_slot-at one indexed p still (slot_after s c) number

    -- the slot itself stays
    others_stay : slot_at (with_slot core q o) (slot_in core p).number ≡ slot_at core (slot_in core p).number
    others_stay =
        let s = slot_in core p in
        let one : Core = with_slot core q o in
        let indexed = apart-with_slot core apart q inside o numbered in
        let still : p < length one.rows = omega (arith, length-with_row core q (record (row_at core q) { slot = o })) in
        ap (slot_at one) (sym (number-with_slot core apart q inside o numbered p within)) ∙ slot_found one indexed p still
        ∙ ap (λ (x : Slot). Some x) (slot_in-other core q p o (λ same. other (sym same))) ∙ sym (slot_found core apart p within)

    waits_put : put_slot core o ≡ with_slot core q o
    waits_put = put_slot-at core apart q inside o numbered

-- 4. A slot that this one serves.

pub served-is : (core : Core) (n k : ℕ) (of : Slot) → slot_at core k ≡ Some of → is_handler n of.handler ≡ true → is_taken of.state ≡ true → served n (slot_at core k) ≡ Served of
served-is core n k of is handles taken = rw (is, handles, taken) refl

pub served-unhandled : (core : Core) (n k : ℕ) (of : Slot) → slot_at core k ≡ Some of → is_handler n of.handler ≡ false → served n (slot_at core k) ≡ Refused NoSlot
served-unhandled core n k of is handles = rw (is, handles) refl

pub served-untaken : (core : Core) (n k : ℕ) (of : Slot) → slot_at core k ≡ Some of → is_taken of.state ≡ false → served n (slot_at core k) ≡ Refused NoSlot
served-untaken core n k of is taken = rw (is, taken) (elim (is_handler n of.handler) as (λ b. cond (b && false) (Served of) (Refused NoSlot) ≡ Refused NoSlot) [ true ↦ refl | false ↦ refl ])

module _ (core : Core) (m : Memory) (s : Slot) where
  pub resume_refused : (ra : ℕ) (how : How) → served s.number (slot_at core (word_bits (register s ra))) ≡ Refused NoSlot → Leaves core m s (effect_in core m s (Resume ra how)) core m (Faulted NoSlot)
  unfolding ask reply effect
  resume_refused ra how is = rw is (record { core_is = refl; memory_is = refl; completion_is = refl; stays = λ e. cc })

  pub read_refused : (rd ra reg : ℕ) → served s.number (slot_at core (word_bits (register s ra))) ≡ Refused NoSlot → Leaves core m s (effect_in core m s (Rreg rd ra reg)) core m (Faulted NoSlot)
  unfolding ask reply effect
  read_refused rd ra reg is = rw is (record { core_is = refl; memory_is = refl; completion_is = refl; stays = λ e. cc })

  pub write_refused : (ra rb reg : ℕ) → served s.number (slot_at core (word_bits (register s ra))) ≡ Refused NoSlot → Leaves core m s (effect_in core m s (Wreg ra rb reg)) core m (Faulted NoSlot)
  unfolding ask reply effect
  write_refused ra rb reg is = rw is (record { core_is = refl; memory_is = refl; completion_is = refl; stays = λ e. cc })

module _ (core : Core) (apart : AreNumbered core.rows) (p : ℕ) (within : p < length core.rows) (q : ℕ) (inside : q < length core.rows) (other : q ≢ p) (m : Memory) where
  abbrev me : Slot
  me = slot_in core p

  abbrev of : Slot
  of = slot_in core q

  pub resume_serves : (ra : ℕ) (how : How) → served me.number (slot_at core (word_bits (register me ra))) ≡ Served of
      → Leaves core m me (effect_in core m me (Resume ra how)) (with_slot (with_slot core q (resumed_by how of)) p (slot_after me (plain me))) m (Did None)
  unfolding ask reply effect core_after memory_after plain slot_after
  resume_serves ra how is = rw is (record {
    core_is = sym (two_slots core apart p within q inside other (resumed_by how of) (resumed_number how of) (plain me));
    memory_is = refl;
    completion_is = refl;
    stays = λ e. cc;
  })

  pub read_waits : (rd ra reg : ℕ) → served me.number (slot_at core (word_bits (register me ra))) ≡ Served of → (core.split && is_empty of reg) ≡ true
      → Leaves core m me (effect_in core m me (Rreg rd ra reg)) (with_slot core q (delivered of)) m Blocked
  unfolding ask reply effect
  read_waits rd ra reg is empty = rw (is, empty) (record {
    core_is = sym (waits_put core apart p within q inside other (delivered of) (delivered_from of).number);
    memory_is = refl;
    completion_is = refl;
    stays = λ e. others_stay core apart p within q inside other (delivered of) (delivered_from of).number;
  })

  pub read_reads : (rd ra reg : ℕ) → served me.number (slot_at core (word_bits (register me ra))) ≡ Served of → (core.split && is_empty of reg) ≡ false
      → Leaves core m me (effect_in core m me (Rreg rd ra reg)) (with_slot core p (slot_after me (record (plain me) { writes = (rd, register of reg) ∷ [] }))) m (Did None)
  unfolding ask reply effect core_after memory_after plain
  read_reads rd ra reg is full = rw (is, full) (record {
    core_is = sym (own_put core apart p within (record (plain me) { writes = (rd, register of reg) ∷ [] }));
    memory_is = refl;
    completion_is = refl;
    stays = λ e. cc;
  })

  pub write_waits : (ra rb reg : ℕ) → served me.number (slot_at core (word_bits (register me ra))) ≡ Served of → (core.split && is_empty of reg) ≡ true
      → Leaves core m me (effect_in core m me (Wreg ra rb reg)) (with_slot core q (delivered of)) m Blocked
  unfolding ask reply effect
  write_waits ra rb reg is empty = rw (is, empty) (record {
    core_is = sym (waits_put core apart p within q inside other (delivered of) (delivered_from of).number);
    memory_is = refl;
    completion_is = refl;
    stays = λ e. others_stay core apart p within q inside other (delivered of) (delivered_from of).number;
  })

  pub write_writes : (ra rb reg : ℕ) → served me.number (slot_at core (word_bits (register me ra))) ≡ Served of → (core.split && is_empty of reg) ≡ false
      → Leaves core m me (effect_in core m me (Wreg ra rb reg)) (with_slot (with_slot core q (record of { regs = set of.regs reg (register me rb) })) p (slot_after me (plain me))) m (Did None)
  unfolding ask reply effect core_after memory_after plain slot_after
  write_writes ra rb reg is full = rw (is, full) (record {
    core_is = sym (two_slots core apart p within q inside other (record of { regs = set of.regs reg (register me rb) }) refl (plain me));
    memory_is = refl;
    completion_is = refl;
    stays = λ e. cc;
  })

-- 5. Events.

module _ (core : Core) (apart : AreNumbered core.rows) (p : ℕ) (within : p < length core.rows) (m : Memory) where
  abbrev self : Slot
  self = slot_in core p

  pub no_event : (rd : ℕ) → queue_in core p ≡ [] → Leaves core m self (effect_in core m self (Evt rd)) core m Blocked
  unfolding ask reply effect
  no_event rd none = rw (queue_found core apart p within, none) (record { core_is = refl; memory_is = refl; completion_is = refl; stays = λ e. refl })

  pub no_slot_of_event : (rd : ℕ) (e : Event) (rest : List Event) → queue_in core p ≡ e ∷ rest → slot_at core e.slot ≡ None → Leaves core m self (effect_in core m self (Evt rd)) core m Blocked
  unfolding ask reply effect
  no_slot_of_event rd e rest some none = rw (queue_found core apart p within, some, none) (record { core_is = refl; memory_is = refl; completion_is = refl; stays = λ e. refl })

  module _ (e : Event) (rest : List Event) (some : queue_in core p ≡ e ∷ rest) (q : ℕ) (inside : q < length core.rows) (other : q ≢ p) (found : slot_at core e.slot ≡ Some (slot_in core q)) where
    abbrev taken : Core
    taken = with_slot core q (record (slot_in core q) { state = Taken })

    -- the slot of the event is taken, the slot goes on with the event's words, and its queue loses the event
    pub takes_event : (rd : ℕ) → let after = with_slot taken p (slot_after self (record (plain self) { writes = event_writes rd e })) in
        Leaves core m self (effect_in core m self (Evt rd)) (with_queue_in after p (drop 1 (queue_in after p))) m (Did None)
    unfolding ask reply effect core_after memory_after plain slot_after
    takes_event rd =
        let c : Change = record (plain self) { writes = event_writes rd e } in
        let after : Core = with_slot taken p (slot_after self c) in
        let was : p < length taken.rows = omega (arith, length-with_row core q (record (row_at core q) { slot = record (slot_in core q) { state = Taken } })) in
        let still : p < length after.rows = omega (arith, length-with_row taken p (record (row_at taken p) { slot = slot_after self c })) in
        let indexed = apart-with_slot core apart q inside (record (slot_in core q) { state = Taken }) refl in
        let unmoved : (slot_in taken p).number ≡ self.number = number-with_slot core apart q inside (record (slot_in core q) { state = Taken }) refl p within in
        let numbered : (slot_after self c).number ≡ (slot_in taken p).number = (changed_from self c).number ∙ sym unmoved in
        let indexed_after = apart-with_slot taken indexed p was (slot_after self c) numbered in
        let number : (slot_in after p).number ≡ self.number = number-with_slot taken indexed p was (slot_after self c) numbered p was ∙ unmoved in
        let queue : queue_in after p ≡ e ∷ rest =
        queue_in-slot taken p p (slot_after self c) was ∙ queue_in-slot core q p (record (slot_in core q) { state = Taken }) inside ∙ some
        in
        rw (queue_found core apart p within, some, found) (record {
          core_is =
              ap (λ (es : List Event). with_queue_in after p (drop 1 es)) queue
              ∙ sym (put_queue-at after indexed_after p still rest)
              ∙ ap (λ (n : ℕ). put_queue after n rest) number
              ∙ ap (λ (k : Core). put_queue k self.number rest) (sym (two_slots core apart p within q inside other (record (slot_in core q) { state = Taken }) refl c));
          memory_is = refl;
          completion_is = refl;
          stays = λ e. cc;
        })

-- 6. The same facts at values that are equal to these.

pub leaves_at : (core : Core) (m : Memory) (s : Slot) (e : Effect) (k core' : Core) (o : Completion) → Leaves core m s e k m o → core' ≡ k → Leaves core m s e core' m o
leaves_at core m s e k core' o h same = record {
  core_is = same ∙ h.core_is;
  memory_is = h.memory_is;
  completion_is = h.completion_is;
  stays = λ e. ap (λ (x : Core). slot_at x s.number) same ∙ h.stays e;
}

-- a change of the slot at p after one of the slot at q
pub goes_after : (core : Core) (q p : ℕ) (o : Slot) (f : Slot → Slot) → q ≢ p → (k k' : Core) → k ≡ with_slot core q o
    → k' ≡ with_slot k p (f (slot_in k p)) → k' ≡ with_slot (with_slot core q o) p (f (slot_in core p))
goes_after core q p o f other k k' first second =
    second ∙ ap (λ (x : Core). with_slot x p (f (slot_in x p))) first ∙ ap (λ (x : Slot). with_slot (with_slot core q o) p (f x)) (slot_in-other core q p o (λ same. other (sym same)))

-- what an event's slot waits for is no running slot's handler
pub event_differs : (core : Core) → IsCore core → (p : ℕ) → p < length core.rows → is_running (slot_in core p).state ≡ true
    → (e : Event) (rest : List Event) → queue_in core p ≡ e ∷ rest → (q : ℕ) → q < length core.rows → (slot_in core q).number ≡ e.slot → q ≢ p
event_differs core whole p within runs e rest some q inside number same =
    let found : slot_at core e.slot ≡ Some (slot_in core q) = ap (slot_at core) (sym number) ∙ slot_found core (apart_in core whole) q inside in
    let all = queued_waits core whole.matched e.slot (slot_in core q) found (slot_in core p).number in
    let AreWaiting : List Event → Type 0 = AllByRecursion (λ (d : Event). d.slot ≡ e.slot → (is_waiting (slot_in core q).state ≡ true) × ((slot_in core q).handler ≡ Some (slot_in core p).number)) in
    let first = subst AreWaiting (queue_found core (apart_in core whole) p within ∙ some) all in
    by (slot_in core p).state runs (ap (λ (k : ℕ). is_waiting (slot_in core k).state) (sym same) ∙ (first.0 refl).0)
  where
    by : (state : SlotState) → is_running state ≡ true → is_waiting state ≡ true → ⊥
    by Running e f = cc
    by Waiting e f = cc
    by Taken e f = cc
    by (Halted c) e f = cc

pub none_first : (es : List Event) → slice_get es 0 ≡ None → es ≡ []
none_first [] none = refl
none_first (e ∷ es) none = cc

pub some_first : (es : List Event) (e : Event) → slice_get es 0 ≡ Some e → es ≡ e ∷ drop 1 es
some_first [] e some = cc
some_first (d ∷ es) e some =
    let same : d ≡ e = cc in
    ap (λ (x : Event). x ∷ es) same
