-- What a turn relies on of a core.
use Rattle.std.proofs.Common.{◌≡◌, ◌≢◌, ℕ, ◌<◌, ◌≤◌, true, false, cond, eqb, List, [], ◌∷◌, ◌++◌, length, get_or, Some}
use Rattle.std.proofs.Common.{None, refl, sym, ap, subst, ◌∙◌, arith, inl, inr}
use Rattle.std.proofs.lemmas.Bool.{cases_eq, cases_lt}
use Rattle.std.proofs.lemmas.List.{length-set, get_or-set_same, get_or-set_other, get_or_past}
use Rattle.std.specs.{Prelude.{IfSome, slice_index}, List.AllByRecursion}
use Rattle.mm_model.specs.declared.slot.{SlotState.TheVariants.{Running, Waiting, Halted}, Pending.Pending}
use Rattle.mm_model.specs.{declared.event.Event.Event, Slot.{Slot, is_empty}, Image.output_limit}
use Rattle.mm_model.specs.State.{ThreadRow, Core, slot_at, queue_at, output_of, put_queue}
use Rattle.mm_model.specs.Turn.{stood, core_faulted, is_running, is_sync}
use Rattle.mm_model.specs.{Fits.{waits_for, slots_of, IsSlot, LoadsMatch, IsOfVersion, IsCore}, Spelling.IsOther}
use Rattle.mm_model.proofs.{CoreRows.{each_get, slot_has, other_at}, CoreSteps.waits_for-rests}
use Rattle.mm_model.proofs.EffectSteps.{running_waits_not}
use Rattle.mm_thread.specs.SlotIndices.{no_row, row_at, slot_in, queue_in, with_row, with_slot, with_queue_in}
use Rattle.mm_thread.specs.Tables.{AreNumbered}
use Rattle.mm_thread.proofs.Index.{slot_found, queue_found, put_slot-at, put_queue-at, numbers-with_row, number-get}
use Rattle.mm_thread.proofs.{RowIndex.apart_in, RunningSlots.numbered_set}
use Rattle.mm_model.proofs.Shortness as short

-- 1. A row in the place of one.

pub length-with_row : (core : Core) (p : ℕ) (row : ThreadRow) → length (with_row core p row).rows ≡ length core.rows
length-with_row core p row = length-set core.rows p row

pub row_at-same : (core : Core) (p : ℕ) (row : ThreadRow) → p < length core.rows → row_at (with_row core p row) p ≡ row
row_at-same core p row within = get_or-set_same core.rows p row no_row within

pub row_at-other : (core : Core) (p q : ℕ) (row : ThreadRow) → q ≢ p → row_at (with_row core p row) q ≡ row_at core q
row_at-other core p q row other = get_or-set_other core.rows p q row no_row other

pub slot_in-same : (core : Core) (p : ℕ) (s : Slot) → p < length core.rows → slot_in (with_slot core p s) p ≡ s
slot_in-same core p s within = ap (λ (r : ThreadRow). r.slot) (row_at-same core p (record (row_at core p) { slot = s }) within)

pub slot_in-other : (core : Core) (p q : ℕ) (s : Slot) → q ≢ p → slot_in (with_slot core p s) q ≡ slot_in core q
slot_in-other core p q s other = ap (λ (r : ThreadRow). r.slot) (row_at-other core p q (record (row_at core p) { slot = s }) other)

pub queue_in-slot : (core : Core) (p q : ℕ) (s : Slot) → p < length core.rows → queue_in (with_slot core p s) q ≡ queue_in core q
queue_in-slot core p q s within = elim (cases_eq q p) [
  | inl e ↦ rw e (ap (λ (r : ThreadRow). r.queue) (row_at-same core p (record (row_at core p) { slot = s }) within))
  | inr ne ↦ ap (λ (r : ThreadRow). r.queue) (row_at-other core p q (record (row_at core p) { slot = s }) ne)
]

-- 2. The bounds of a core.

pub byte_limit : (version : ℕ) → output_limit version ≤ 65536
byte_limit version = elim (eqb version 1) as (λ b. cond b 4096 65536 ≤ 65536) [ true ↦ omega arith | false ↦ omega arith ]

module _ (core : Core) (whole : IsCore core) where
  pub slot_is : (n : ℕ) (s : Slot) → slot_at core n ≡ Some s → IsSlot s
  slot_is n s is = slot_has IsSlot core n s whole.formed.slots is

  -- no output is longer than version 2 allows
  pub output_short : (g : ℕ) → length (output_of core g) ≤ 65536
  unfolding output_of
  output_short g = elim (cases_lt g 64) as (λ _. length (get_or core.outputs g []) ≤ 65536) [
    | inl inside ↦
        let one = each_get (λ (bytes : List ℕ). length bytes ≤ output_limit core.version) core.outputs g [] whole.kept.within (omega (arith, whole.formed.outputs)) in
        omega (arith, one, byte_limit core.version)
    | inr past ↦ omega (arith, ap length (get_or_past core.outputs g [] (omega (arith, whole.formed.outputs))))
  ]

  abbrev apart : AreNumbered core.rows
  apart = apart_in core whole

  module _ (p : ℕ) (within : p < length core.rows) where
    abbrev there : slot_at core (slot_in core p).number ≡ Some (slot_in core p)
    there = slot_found core apart p within

    own : IsSlot (slot_in core p)
    own = slot_is (slot_in core p).number (slot_in core p) there

    own_loads : LoadsMatch (slot_in core p)
    own_loads = slot_has LoadsMatch core (slot_in core p).number (slot_in core p) whole.matched.loads there

    pub group_small : (slot_in core p).group < 64
    group_small = (slot_has (IsOfVersion 2) core (slot_in core p).number (slot_in core p) whole.numbers there).group

    pub number_small : (slot_in core p).number < 64
    number_small = own.number

    -- the registers of its pending loads are registers
    pub registers_small : AllByRecursion (λ (x : Pending). x.reg < 16) (slot_in core p).pending
    registers_small = short.loads_small (slot_in core p) own own_loads

    -- there is room for the load of a register that does not wait for one
    pub pending_room : (rd : ℕ) → rd < 16 → is_empty (slot_in core p) rd ≡ false → length (slot_in core p).pending < 16
    pending_room rd small free = short.pending_room (slot_in core p) own own_loads rd small free

    -- a slot's handler is there
    pub handler_there : (h : ℕ) → (slot_in core p).handler ≡ Some h → slot_at core h ≡ None → ⊥
    handler_there h is none =
        let s = slot_in core p in
        let other : IfSome s.handler (IsOther (slots_of core) s.number) = slot_has
        (λ (t : Slot). IfSome t.handler (IsOther (slots_of core) t.number)) core s.number s whole.handlers
        (slot_found core apart p within) in
        let at = other_at core whole.formed.rising s.number h (subst (λ o. IfSome o (IsOther (slots_of core) s.number)) is other) in
        cc (at.1.1)

    -- a running slot's event is in no queue, so that a queue has room for it
    pub queue_room : is_running (slot_in core p).state ≡ true → (q : ℕ) → q < length core.rows → length (queue_in core q) < 64
    queue_room runs q inside =
        let s = slot_in core p in
        let h : ℕ = (slot_in core q).number in
        let room = short.queue_room core whole.matched h whole.formed s.number number_small (ap (waits_for h) there ∙ waits_for-rests h s (running_waits_not s.state runs)) in
        omega (arith, room, ap length (queue_found core apart q inside))

-- 3. A slot that waits and its event in its handler's queue.

pub apart-with_slot : (core : Core) → AreNumbered core.rows → (p : ℕ) → p < length core.rows → (s : Slot) → s.number ≡ (slot_in core p).number
    → AreNumbered (with_slot core p s).rows
apart-with_slot core apart p within s same = numbered_set core.rows p within (record (row_at core p) { slot = s }) same apart

pub number-with_slot : (core : Core) → AreNumbered core.rows → (p : ℕ) → p < length core.rows → (s : Slot) → s.number ≡ (slot_in core p).number
    → (q : ℕ) → q < length core.rows → (slot_in (with_slot core p s) q).number ≡ (slot_in core q).number
number-with_slot core apart p within s same q inside =
    let row : ThreadRow = record (row_at core p) { slot = s } in
    let still : q < length (with_slot core p s).rows = omega (arith, length-with_row core p row) in
    sym (number-get (with_slot core p s) q still)
    ∙ ap (λ (ns : List ℕ). slice_index ns q) (numbers-with_row core apart p within row same)
    ∙ number-get core q inside

module _ (core : Core) (apart : AreNumbered core.rows) (p : ℕ) (within : p < length core.rows) where
  pub faulted-handled : (e : Event) (h at : ℕ) → at < length core.rows → (slot_in core at).number ≡ h
      → let waits = with_slot core p (stood (slot_in core p) Waiting) in
      with_queue_in waits at (queue_in waits at ++ e ∷ []) ≡ core_faulted core (slot_in core p) e (Some h)
  unfolding core_faulted
  faulted-handled e h at inside is =
      let s = slot_in core p in
      let waits : Core = with_slot core p (stood s Waiting) in
      let indexed = apart-with_slot core apart p within (stood s Waiting) refl in
      let still : at < length waits.rows = omega (arith, length-with_row core p (record (row_at core p) { slot = stood s Waiting })) in
      let number : (slot_in waits at).number ≡ h = number-with_slot core apart p within (stood s Waiting) refl at inside ∙ is in
      let queue : queue_at waits h ≡ queue_in waits at = ap (queue_at waits) (sym number) ∙ queue_found waits indexed at still in
      let put : with_queue_in waits at (queue_in waits at ++ e ∷ []) ≡ put_queue waits h (queue_at waits h ++ e ∷ []) =
      sym (put_queue-at waits indexed at still (queue_in waits at ++ e ∷ []))
      ∙ ap (λ (n : ℕ). put_queue waits n (queue_in waits at ++ e ∷ [])) number
      ∙ ap (λ (q : List Event). put_queue waits h (q ++ e ∷ [])) (sym queue)
      in
      put ∙ ap (λ (c : Core). put_queue c h (queue_at c h ++ e ∷ [])) (sym (put_slot-at core apart p within (stood s Waiting) refl))

  pub faulted-waits : (e : Event) → is_sync e.cause ≡ true → with_slot core p (stood (slot_in core p) Running) ≡ core_faulted core (slot_in core p) e None
  unfolding core_faulted
  faulted-waits e sync = rw sync (sym (put_slot-at core apart p within (stood (slot_in core p) Running) refl))

  pub faulted-halts : (e : Event) → is_sync e.cause ≡ false → with_slot core p (stood (slot_in core p) (Halted (Some e.cause))) ≡ core_faulted core (slot_in core p) e None
  unfolding core_faulted
  faulted-halts e sync = rw sync (sym (put_slot-at core apart p within (stood (slot_in core p) (Halted (Some e.cause))) refl))
