-- How the parts of a turn make it.
use Rattle.std.proofs.Common.{◌≡◌, ℕ, ◌+◌, ◌<◌, ◌^◌, Bool, true, false, cond, eqb, eqb-true, List, [], ◌∷◌, length, map}
use Rattle.std.proofs.Common.{Option, Some, None, Result, Ok, Err, refl, sym, ap, subst, ◌∙◌, arith, pos}
use Rattle.std.{proofs.lemmas.List.{set-set, length-map}, specs.Prelude.{◌&&◌, slice_index}}
use Rattle.mm_word.specs.declared.{perm.Kind.TheVariants.Fetch, cause.Cause.{Cause, TheVariants.Bounds}}
use Rattle.mm_word.specs.declared.word.{Word.{Word, TheVariants.{Int, Ptr}}, Cell.Cell}
use Rattle.mm_word.specs.Access.{AccessValue, check_result}
use Rattle.mm_isa.specs.declared.instr.Instr.{Instr}
use Rattle.mm_model.specs.declared.{slot.SlotState.TheVariants.Running, step.{Step.Step, Tick.TheVariants.Blocked}}
use Rattle.mm_model.specs.{Memory.{Memory, cell_at}, Slot.Slot, State.{ThreadRow, Core, slot_at, at_number, put_slot}}
use Rattle.mm_model.specs.Uses.{Use, accesses, accesses-append, TakesUses, takes_both}
use Rattle.mm_model.specs.{Operands.{addr_operand, value_operand, lacks}, Ask.ask}
use Rattle.mm_model.specs.Effect.{Effect, delivered, Effect.{Fault, Block, Deliver, Do}}
use Rattle.mm_model.specs.Turn.{Turned, stood, core_faulted, event_of, tick_faulted, faulted, blocked, ended, executed}
use Rattle.mm_model.{specs.Turn.{issued, fetched, aimed, started, touch_of, asked_use}, proofs.SlotSteps.delivered_from}
use Rattle.mm_mem.specs.{Answers.{fetched as fetched_answer}}
use Rattle.mm_thread.specs.declared.completion.{Completion.Completion, Retired.Retired}
use Rattle.mm_thread.specs.SlotIndices.{row_at, slot_in, with_row, with_slot, numbers_in}
use Rattle.mm_thread.specs.Execution.{CanTurn, CanEnd, Leaves, effect_in, Executes, TakesTurn, core_ended, step_ended}
use Rattle.mm_thread.specs.{Tables.AreNumbered, Told.{in_cell, found_by, comes_to}}
use Rattle.mm_thread.proofs.{RowIndex.apart_in, Index.{slot_found, put_slot-at, number-get, apart_by}}
use Rattle.mm_thread.proofs.Cores.{queue_in-slot, slot_in-same}
use Rattle.mm_thread.specs.declared.completion.Completion.TheVariants as completions

-- 1. A slot that is put in a core.

put_number : (s : Slot) (row : ThreadRow) → (at_number s.number (λ r. record r { slot = s }) row).slot.number ≡ row.slot.number
put_number s row = by (eqb row.slot.number s.number) refl
  where
    by : (b : Bool) → eqb row.slot.number s.number ≡ b → (cond b (record row { slot = s }) row).slot.number ≡ row.slot.number
    by true e = sym (eqb-true row.slot.number s.number e)
    by false e = refl

put_numbers : (s : Slot) (rows : List ThreadRow) → map (λ (t : Slot). t.number)
    (map (λ (r : ThreadRow). r.slot) (map (at_number s.number (λ r. record r { slot = s })) rows)) ≡ map
    (λ (t : Slot). t.number) (map (λ (r : ThreadRow). r.slot) rows)
put_numbers s [] = refl
put_numbers s (row ∷ rows) = rw (put_number s row, put_numbers s rows) refl

pub numbers-put_slot : (core : Core) (s : Slot) → numbers_in (put_slot core s) ≡ numbers_in core
unfolding put_slot
numbers-put_slot core s = put_numbers s core.rows

length-put_slot : (core : Core) (s : Slot) → length (put_slot core s).rows ≡ length core.rows
unfolding put_slot
length-put_slot core s = length-map core.rows (at_number s.number (λ r. record r { slot = s }))

pub with_slot-twice : (core : Core) (p : ℕ) (a b : Slot) → p < length core.rows → with_slot (with_slot core p a) p b ≡ with_slot core p b
with_slot-twice core p a b within =
    ap (λ q. with_row (with_slot core p a) p (record { slot = b; queue = q })) (queue_in-slot core p p a within)
    ∙ ap (λ (rows : List ThreadRow). record core { rows = rows }) (set-set core.rows p (record (row_at core p) { slot = a }) (record (row_at core p) { slot = b }))

-- the slot of a place whose number is found elsewhere too
same_slot : (core k : Core) → AreNumbered core.rows → (p : ℕ) → p < length core.rows → numbers_in k ≡ numbers_in core → p < length k.rows
    → slot_at k (slot_in core p).number ≡ slot_at core (slot_in core p).number → slot_in k p ≡ slot_in core p
same_slot core k apart p within numbers inside stays =
    let indexed : AreNumbered k.rows = apart_by core k numbers apart in
    let number : (slot_in k p).number ≡ (slot_in core p).number = sym (number-get k p inside) ∙ ap (λ (ns : List ℕ). slice_index ns p) numbers ∙ number-get core p within in
    let is : ◌≡◌ {A = Option Slot} (Some (slot_in k p)) (Some (slot_in core p)) =
    sym (slot_found k indexed p inside) ∙ ap (slot_at k) number ∙ stays ∙ slot_found core apart p within
    in
    cc

-- 2. The end of a turn.

-- what is left where an instruction has ended so
pub record EndsSo (t : Turned) (core : Core) (memory : Memory) (step : Step) : Type 0 where
  pub core_is : core ≡ t.core
  pub memory_is : memory ≡ t.memory
  pub step_is : step ≡ t.step

module _ (core : Core) (p : ℕ) (can : CanTurn core p) (m : Memory) where
  abbrev s : Slot
  s = slot_in core p

  module _ (other : Slot) (core1 : Core) (is : core1 ≡ put_slot core other) (stays : slot_at core1 s.number ≡ slot_at core s.number) where
    numbers_stay : numbers_in core1 ≡ numbers_in core
    numbers_stay = ap numbers_in is ∙ numbers-put_slot core other

    still : p < length core1.rows
    still = let n = can.within in omega (arith, ap (λ (k : Core). length k.rows) is, length-put_slot core other)

    slot_stays : slot_in core1 p ≡ s
    slot_stays = same_slot core core1 (apart_in core can.whole) p can.within numbers_stay still stays

    waits_on : with_slot core1 p (stood (slot_in core1 p) Running) ≡ put_slot core1 (stood s Running)
    waits_on =
        let indexed : AreNumbered core1.rows = apart_by core core1 numbers_stay (apart_in core can.whole) in
        ap (λ (x : Slot). with_slot core1 p (stood x Running)) slot_stays
        ∙ sym (put_slot-at core1 indexed p still (stood s Running) (ap (λ (x : Slot). x.number) (sym slot_stays)))

  -- what the end of a turn needs
  pub can_end : (e : Effect) (core1 : Core) (m1 : Memory) (o : Completion) → Leaves core m s e core1 m1 o → CanEnd o core1 p
  can_end e core1 m1 o h = by e o h.core_is h.completion_is h.stays
    where
      waiting : (k : Core) → p < length k.rows → slot_in k p ≡ s → CanEnd completions.Blocked k p
      waiting k inside same = (inside, let t = can.turns in omega (arith, ap (λ (x : Slot). x.turns) same))

      by : (e : Effect) (o : Completion) → core1 ≡ Rattle.mm_thread.specs.Execution.core_left core s e → o ≡ Rattle.mm_thread.specs.Execution.completion_of e
          → (o ≡ completions.Blocked → slot_at core1 s.number ≡ slot_at core s.number) → CanEnd o core1 p
      by (Do c) o core_is completion_is stays = let P : Completion → Type 0 = λ x. CanEnd x core1 p in subst P (sym completion_is) tt
      by (Fault c) o core_is completion_is stays =
          let P : Completion → Type 0 = λ x. CanEnd x core1 p in
          let C : Core → Type 0 = λ k. CanTurn k p in
          subst P (sym completion_is) (subst C (sym core_is) can)
      by Block o core_is completion_is stays =
          let P : Completion → Type 0 = λ x. CanEnd x core1 p in
          let C : Core → Type 0 = λ k. CanEnd completions.Blocked k p in
          subst P (sym completion_is) (subst C (sym core_is) (waiting core can.within refl))
      by (Deliver other) o core_is completion_is stays =
          let P : Completion → Type 0 = λ x. CanEnd x core1 p in
          subst P (sym completion_is) (waiting core1 (still other core1 core_is (stays completion_is)) (slot_stays other core1 core_is (stays completion_is)))

  module _ (i : Instr) (f : AccessValue) (touched : Option AccessValue) (us : List Use) (core1 : Core) (m1 : Memory) (o : Completion) (core2 : Core) (step : Step)
      (core_is : core2 ≡ core_ended i core1 (slot_in core1 p) p o) (step_is : step ≡ step_ended s.number (slot_in core1 p) (Some f) touched o) where
    pub ended_so : (e : Effect) → Leaves core m s e core1 m1 o → EndsSo (ended core m s i f touched us e) core2 m1 step
    unfolding ended faulted blocked
    ended_so (Do c) h = record {
      core_is = core_is ∙ ap (core_ended i core1 (slot_in core1 p) p) h.completion_is ∙ h.core_is;
      memory_is = h.memory_is;
      step_is = step_is ∙ ap (step_ended s.number (slot_in core1 p) (Some f) touched) h.completion_is;
    }
    ended_so (Fault c) h = record {
      core_is = core_is ∙ ap (core_ended i core1 (slot_in core1 p) p) h.completion_is
          ∙ ap (λ (k : Core). core_faulted k (slot_in k p) (event_of (slot_in k p) c (addr_operand i (slot_in k p)) (value_operand i (slot_in k p))) (slot_in k p).handler) h.core_is;
      memory_is = h.memory_is;
      step_is = step_is ∙ ap (step_ended s.number (slot_in core1 p) (Some f) touched) h.completion_is
          ∙ ap (λ (k : Core). step_ended s.number (slot_in k p) (Some f) touched (completions.Faulted c)) h.core_is;
    }
    ended_so Block h = record {
      core_is = core_is ∙ ap (core_ended i core1 (slot_in core1 p) p) h.completion_is ∙ ap (λ (k : Core). with_slot k p (stood (slot_in k p) Running)) h.core_is
          ∙ sym (put_slot-at core (apart_in core can.whole) p can.within (stood s Running) refl);
      memory_is = h.memory_is;
      step_is = step_is ∙ ap (step_ended s.number (slot_in core1 p) (Some f) touched) h.completion_is;
    }
    ended_so (Deliver other) h = record {
      core_is = core_is ∙ ap (core_ended i core1 (slot_in core1 p) p) h.completion_is ∙ waits_on other core1 h.core_is (h.stays h.completion_is)
          ∙ ap (λ (k : Core). put_slot k (stood s Running)) h.core_is;
      memory_is = h.memory_is;
      step_is = step_is ∙ ap (step_ended s.number (slot_in core1 p) (Some f) touched) h.completion_is;
    }

pub ended_uses : (core : Core) (m : Memory) (s : Slot) (i : Instr) (f : AccessValue) (touched : Option AccessValue) (us : List Use) (e : Effect) → (ended core m s i f touched us e).uses ≡ us
unfolding ended faulted blocked
ended_uses core m s i f touched us (Fault c) = refl
ended_uses core m s i f touched us Block = refl
ended_uses core m s i f touched us (Deliver other) = refl
ended_uses core m s i f touched us (Do c) = refl

-- 3. The same with what is asked of a memory.

module _ {M : Type 0} (meaning : M → Memory) (uses : M → ℕ) (stands : M → List Use → Type 0) {W : Type 0} (tells : W → Step → W) (seen : W) where
  pub faults_give : (core : Core) (m : Memory) (s : Slot) (c : Cause) (f : Option AccessValue) (us : List Use) (old new : M) (core' : Core) (watch : W)
      → core' ≡ core_faulted core s (event_of s c (Int 0) (Int 0)) s.handler → meaning new ≡ m
      → watch ≡ tells seen (record { tick = tick_faulted c s.handler; slot = s.number; fetched = f; touched = None; entered = None }) → TakesUses stands old new us → uses new ≡ uses old + accesses us
      → TakesTurn meaning uses stands tells seen (faulted core m s c (Int 0) (Int 0) f None us) old new core' watch
  unfolding faulted
  faults_give core m s c f us old new core' watch core_is memory_is watch_is takes count =
      record { core_is = core_is; memory_is = memory_is; watch_is = watch_is; takes = takes; count = count }

  module _ (core : Core) (p : ℕ) (can : CanTurn core p) (f : AccessValue) (u : Use) (i : Instr) (before mid : M)
      (first : TakesUses stands before mid (u ∷ [])) (same : meaning mid ≡ meaning before) (counted : uses mid ≡ uses before + accesses (u ∷ [])) where
    -- the instruction is carried out
    pub issued_gives : (core.split && lacks i (slot_in core p)) ≡ false → (new : M) (core1 core2 : Core)
        (retired : Retired) (watch : W) → Executes meaning uses stands core (slot_in core p) i mid new core1 retired
        → core2 ≡ core_ended i core1 (slot_in core1 p) p retired.completion → watch ≡ tells seen (step_ended (slot_in core p).number (slot_in core1 p) (Some f) retired.touched retired.completion)
        → TakesTurn meaning uses stands tells seen (issued core (meaning before) (slot_in core p) f u i) before new core2 watch
    unfolding issued executed
    issued_gives free new core1 core2 retired watch ex core_is watch_is =
        let s = slot_in core p in
        let m : Memory = meaning before in
        let LeavesAt : Memory → Type 0 = λ x. Leaves core x s (effect_in core x s i) core1 (meaning new) retired.completion in
        let TakesAt : Memory → Type 0 = λ x. TakesUses stands mid new (asked_use x (ask i s)) in
        let CountAt : Memory → Type 0 = λ x. uses new ≡ uses mid + accesses (asked_use x (ask i s)) in
        let us : List Use = u ∷ asked_use m (ask i s) in
        let step : Option AccessValue → Step = λ t. step_ended s.number (slot_in core1 p) (Some f) t retired.completion in
        let so = ended_so core p can m i f (touch_of (ask i s)) us core1 (meaning new) retired.completion core2 (step (touch_of (ask i s))) core_is
        refl (effect_in core m s i) (subst LeavesAt same ex.leaves) in
        let listed = ended_uses core m s i f (touch_of (ask i s)) us (effect_in core m s i) in
        let Takes : List Use → Type 0 = λ ws. TakesUses stands before new ws in
        let Count : List Use → Type 0 = λ ws. uses new ≡ uses before + accesses ws in
        let all : uses new ≡ uses before + accesses us = let one = subst CountAt same ex.count in omega (arith, accesses-append (u ∷ []) (asked_use m (ask i s))) in
        rw free (record {
          core_is = so.core_is;
          memory_is = so.memory_is;
          watch_is = watch_is ∙ ap (λ (t : Option AccessValue). tells seen (step t)) ex.touched ∙ ap (tells seen) so.step_is;
          takes = subst Takes (sym listed) (takes_both first (subst TakesAt same ex.takes));
          count = subst Count (sym listed) all;
        })

    -- the slot waits for a register
    pub issued_waits : (core.split && lacks i (slot_in core p)) ≡ true → (core1 core2 : Core) (watch : W) (n : ℕ)
        → core1 ≡ with_slot core p (delivered (slot_in core p)) → core2 ≡ with_slot core1 p
        (stood (slot_in core1 p) Running)
        → n ≡ (slot_in core p).number → watch ≡ tells seen (record { tick = Blocked; slot = n; fetched = Some f; touched = None; entered = None })
        → TakesTurn meaning uses stands tells seen (issued core (meaning before) (slot_in core p) f u i) before mid core2 watch
    unfolding issued blocked
    issued_waits waits core1 core2 watch n first_is core_is number_is watch_is =
        let s = slot_in core p in
        let from = delivered_from s in
        rw waits (record {
          core_is = core_is ∙ ap (λ (k : Core). with_slot k p (stood (slot_in k p) Running)) first_is
              ∙ ap (λ (x : Slot). with_slot (with_slot core p (delivered s)) p (stood x Running)) (slot_in-same core p (delivered s) can.within)
              ∙ with_slot-twice core p (delivered s) (stood (delivered s) Running) can.within
              ∙ sym (put_slot-at core (apart_in core can.whole) p can.within (stood (delivered s) Running) from.number);
          memory_is = same;
          watch_is = watch_is ∙ ap (λ (k : ℕ). tells seen (record { tick = Blocked; slot = k; fetched = Some f; touched = None; entered = None })) (number_is ∙ sym from.number);
          takes = first;
          count = counted;
        })

-- 4. What a fetch brings.

pub fetched-none : (o : Option Cell) → fetched_answer o ≡ None → o ≡ None
fetched-none None e = refl
fetched-none (Some c) e = cc

pub fetched-some : (o : Option Cell) (w : Word) → fetched_answer o ≡ Some w → (c : Cell) × (o ≡ Some c) × (c.word ≡ w)
fetched-some None w e = cc
fetched-some (Some c) w e =
    let same : c.word ≡ w = cc in
    (c, refl, same)

-- a check gives one access
pub same_access : (r : Result AccessValue Cause) (f h : AccessValue) → r ≡ Ok f → r ≡ Ok h → f ≡ h
same_access r f h x y = cc

-- a delivery is no turn
pub turns-delivered : (core : Core) (p : ℕ) → CanTurn core p → (core1 : Core) → core1 ≡ with_slot core p (delivered (slot_in core p)) → (slot_in core1 p).turns < 2 ^ 62
turns-delivered core p can core1 is =
    let turns = can.turns in
    let same = ap (λ (k : Core). (slot_in k p).turns) is ∙ ap (λ (x : Slot). x.turns) (slot_in-same core p (delivered (slot_in core p)) can.within) ∙ (delivered_from (slot_in core p)).turns in
    omega arith

-- 5. How a turn begins.

where_true : {A : Type 0} (b : Bool) (x y : A) → b ≡ true → cond b x y ≡ x
where_true b x y e = rw e refl

where_false : {A : Type 0} (b : Bool) (x y : A) → b ≡ false → cond b x y ≡ y
where_false b x y e = rw e refl

module _ (core : Core) (m : Memory) (s : Slot) where
  pub starts_past : s.past ≡ true → started core m s ≡ faulted core m s Bounds (Int 0) (Int 0) None None []
  unfolding started
  starts_past past = where_true s.past _ _ past

  pub starts_unfetched : (c : Cause) → s.past ≡ false → check_result (Ptr s.ip) (pos 0) Fetch ≡ Err c → started core m s ≡ faulted core m s c (Int 0) (Int 0) None None []
  unfolding started
  starts_unfetched c past err = where_false s.past _ _ past ∙ ap (aimed core m s) err

  pub starts_fetched : (f : AccessValue) → s.past ≡ false → check_result (Ptr s.ip) (pos 0) Fetch ≡ Ok f → started core m s ≡ fetched core m s f (cell_at m f.addr)
  unfolding started
  starts_fetched f past ok = where_false s.past _ _ past ∙ ap (aimed core m s) ok

  -- the instruction that it comes to

  pub comes_past : s.past ≡ true → comes_to m s ≡ None
  comes_past past = where_true s.past None (found_by m (check_result (Ptr s.ip) (pos 0) Fetch)) past

  pub comes_unfetched : (c : Cause) → s.past ≡ false → check_result (Ptr s.ip) (pos 0) Fetch ≡ Err c → comes_to m s ≡ None
  comes_unfetched c past err = where_false s.past None (found_by m (check_result (Ptr s.ip) (pos 0) Fetch)) past ∙ ap (found_by m) err

  pub comes_fetched : (f : AccessValue) → s.past ≡ false → check_result (Ptr s.ip) (pos 0) Fetch ≡ Ok f → comes_to m s ≡ in_cell (cell_at m f.addr)
  comes_fetched f past ok = where_false s.past None (found_by m (check_result (Ptr s.ip) (pos 0) Fetch)) past ∙ ap (found_by m) ok
