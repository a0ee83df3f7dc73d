-- What fits the format of a slot's record keeps the rules of slots, and a slot that keeps them fits it.
use Rattle.std.proofs.Common.{◌≡◌, ◌≢◌, ℕ, zero, suc, ◌^◌, ◌<◌, ◌≤◌, Bool, true, false, not, cond, nat_lt, inl, inr}
use Rattle.std.proofs.Common.{List, [], ◌∷◌, ◌++◌, length, get_or, map, Option, Some, None, refl, sym, ap, subst, ◌∙◌}
use Rattle.std.proofs.Common.{arith, eqb-true}
use Rattle.std.proofs.lemmas.Bool.{cases_lt, eq-eqb, or_from, or_parts, not-false, ltb-false, le-ltb}
use Rattle.std.proofs.lemmas.List.{length-map, get_or_past, Sums.count_by-le-length}
use Rattle.std.specs.{Prelude.{◌==◌, ◌&&◌, ◌||◌, ◌⊎◌, count_by, is_some, option_map, unwrap_or}, List.AllByRecursion}
use Rattle.mm_model.proofs.{CoreSteps.some_true, OneIf.{at_most_one, one_back}}
use Rattle.mm_model.proofs.Bytes.{Apart.{number_of_flags-below, flag-get}, Clean.is_below, CleanWords.well_formed}
use Rattle.mm_model.proofs.{Bytes.SpelledRecords.{is_spelled, not_le}, FlagLists.flags-get}
use Rattle.mm_model.specs.declared.{event.Event.Event, slot.{Pending.Pending, SlotState.{SlotState, TheVariants.Taken}}}
use Rattle.mm_model.specs.Flags.{flags, number_of_flags, one_if, in_mask}
use Rattle.mm_model.specs.{Fits.{is_waiting, identity_of, EventHoldsWords}, Typed.IsTypedSlot}
use Rattle.mm_model.specs.Slot.{Slot, register as register_of, is_empty}
use Rattle.mm_word.specs.declared.cause.Cause.{Cause, TheVariants.NotPointer}
use Rattle.mm_word.specs.{declared.word.Word.{Word, TheVariants.{Int, Ptr}}, Pointer.{Pointer, IsWellFormed}}
use Rattle.mm_word.specs.{Word.{IsWord, word_bits, is_pointer}, Cause.cause_of}
use Rattle.mm_word.proofs.{Packing.pointer_of-bits_of, Causes.cause_back}
use Rattle.mm_machine.specs.Snapshot.{IsPending}
use Rattle.mm_format.specs.{Formats.{each, times, cons}, Images.word}
use Rattle.mm_format.proofs.ImagesFit.{small_bits, word_fits, fits_word, ip_fits, fits_ip, fits_mask}
use Rattle.mm_checkpoint.specs.{Checkpoints.{state_byte, cause_byte, event_of, place_byte}, Reading.state_of}
use Rattle.mm_checkpoint.specs.Tests.{is_bad_state, is_bad_cause, bits_set}
use Rattle.mm_checkpoint.specs.declared.rows.{Queued.Queued, SlotRow.SlotRow}
use Rattle.mm_checkpoint.specs.Format.{word_with, tagged, register, operand, load, beside, event_in, place_in_row}
use Rattle.mm_checkpoint.specs.Format.{address_in, value_in, slot_row, load_count, row_of}
use Rattle.mm_checkpoint.proofs.{Spelled.event_back, Counts.{count_append, count_none, count_yes, any_none, moved}}
use Rattle.mm_checkpoint.proofs.{Loads.{AreNew, one_load, sixteen_flags, pending_set, none_empty}, Owns.Owns}
use Rattle.mm_checkpoint.proofs.States.{state_right, state_small, cause_small, byte_waits, state_back, state_good}
use Rattle.mm_checkpoint.proofs.States.{cause_good, IsZeroUnless, operand_good}

-- two facts
pub also : {A B : Type 0} → A → B → A × B
also a b = (a, b)

-- 1. Words.

with_fits : (tag : Bool) (bad : ℕ → Bool) (w : Word) → (word_with tag bad).Fits w
    → IsWord w × (bad (word_bits w) ≡ false)
unfolding word_with
with_fits true bad w fits = (subst IsWord (sym fits.1) (well_formed (word_bits w) (not-false _ fits.0.0.1)), fits.0.1)
with_fits false bad w fits = (subst IsWord (sym fits.1) fits.0.0.0, fits.0.1)

fits_with : (bad : ℕ → Bool) (w : Word) → IsWord w → bad (word_bits w) ≡ false → (word_with (is_pointer w) bad).Fits w
unfolding word_with
fits_with bad (Int n) small right = (((small, refl), right), refl)
fits_with bad (Ptr p) h right =
    (((small_bits p h, ap not (is_spelled p h)), right), ap Ptr (sym (pointer_of-bits_of p h)))

zero_word : (tag empty : Bool) (w : Word) → (register (tag, empty)).Fits w → empty ≡ true → w ≡ Int 0
unfolding word_with
zero_word tag false w fits e = absurd cc
zero_word true true w fits e = absurd (let no = fits.0.1 in cc)
zero_word false true w fits e = fits.1 ∙ ap Int (eqb-true (word_bits w) 0 (not-false _ fits.0.1))

-- a register that is empty holds integer 0
abbrev pub AreZero : List Bool → List Word → Type 0
AreZero empty regs = (r : ℕ) → get_or empty r false ≡ true → get_or regs r (Int 0) ≡ Int 0

registers_fit : (tags empty : List Bool) (regs : List Word) → (each register (beside tags empty)).Fits regs
    → AllByRecursion IsWord regs × AreZero empty regs
unfolding cons
registers_fit [] empty regs fits =
    subst (λ ws. AllByRecursion IsWord ws × AreZero empty ws) (sym fits) (tt, λ r e. refl)
registers_fit (a ∷ tags) [] regs fits =
    subst (λ ws. AllByRecursion IsWord ws × AreZero [] ws) (sym fits) (tt, λ r e. refl)
registers_fit (a ∷ tags) (b ∷ empty) [] fits = absurd fits
registers_fit (a ∷ tags) (b ∷ empty) (w ∷ regs) fits =
    let others = registers_fit tags empty regs fits.1 in
    (((with_fits a _ w fits.0).0, others.0), more others.1)
  where
    more : AreZero empty regs → AreZero (b ∷ empty) (w ∷ regs)
    more rest zero e = zero_word a b w fits.0 e
    more rest (suc r) e = rest r e

fit_registers : (regs : List Word) (empty : List Bool) → length regs ≡ length empty → AllByRecursion IsWord regs
    → AreZero empty regs → (each register (beside (map is_pointer regs) empty)).Fits regs
unfolding cons
fit_registers [] empty even all none = refl
fit_registers (w ∷ regs) [] even all none = absurd (omega arith)
fit_registers (w ∷ regs) (b ∷ empty) even all none = (
  fits_with _ w all.0 (by b (none 0)),
  fit_registers regs empty (omega arith) all.1 (λ r. none (suc r)),
)
  where
    by : (b : Bool) → (b ≡ true → w ≡ Int 0) → (b && (is_pointer w || not (word_bits w == 0))) ≡ false
    by true empty = ap (λ x. is_pointer x || not (word_bits x == 0)) (empty refl)
    by false empty = refl

operand_fits : (waits : Bool) (w : Word) → (operand waits).Fits w → IsWord w
unfolding tagged
operand_fits waits w fits = (with_fits _ _ w fits.1.0).0

fits_operand : (waits : Bool) (w : Word) → IsZeroUnless waits w → (operand waits).Fits w
unfolding tagged word_with
fits_operand false w h =
    subst (operand false).Fits (sym (h.zero refl)) ((omega arith, refl), ((((omega arith, refl), refl), refl), refl))
fits_operand true (Int n) h = ((omega arith, refl), ((((h.word, refl), refl), refl), refl))
fits_operand true (Ptr p) h = (
  (omega arith, refl),
  ((((small_bits p h.word, ap not (is_spelled p h.word)), refl), ap Ptr (sym (pointer_of-bits_of p h.word))), refl),
)

-- 2. Pending loads.

pub loads_fit : (empty count : ℕ) (earlier ps : List Pending)
    → (times (load empty) (λ earlier p. earlier ++ p ∷ []) count earlier).Fits ps
    → AreNew (flags 16 empty) earlier ps × AllByRecursion (λ (p : Pending). IsWord p.word) ps
unfolding cons load tagged
loads_fit empty zero earlier ps fits =
    subst (λ ps. AreNew (flags 16 empty) earlier ps × AllByRecursion (λ (p : Pending). IsWord p.word) ps) (sym fits)
    (tt, tt)
loads_fit empty (suc count) earlier [] fits = absurd fits
loads_fit empty (suc count) earlier (p ∷ ps) fits =
    let tests = or_parts _ _ fits.0.0.1 in
    let more = or_parts _ _ tests.0 in
    let small = is_below p.reg 16 more.0 in
    let others = loads_fit empty count (earlier ++ p ∷ []) ps fits.1 in (
      (
        record { register = small; empty = flags-get 16 empty p.reg small ∙ not-false _ more.1; alone = tests.1 },
        others.0,
      ),
      (word_fits _ p.word fits.0.1.0.1.0, others.1),
    )

flag_small : (b : Bool) → one_if b < 256
flag_small b = let le = at_most_one b in omega (arith, le)

one_if_small : (b : Bool) → nat_lt 1 (one_if b) ≡ false
one_if_small true = refl
one_if_small false = refl

module _ (fs : List Bool) (long : length fs ≡ 16) where
  abbrev IsFor : ℕ → Pending → Bool
  IsFor r p = p.reg == r

  -- one load for each empty register
  abbrev AreOne : List Pending → Type 0
  AreOne ps = (r : ℕ) → count_by (IsFor r) ps ≡ one_if (get_or fs r false)

  fit_load : (earlier ps : List Pending) (p : Pending) → AreOne (earlier ++ p ∷ ps) → IsWord p.word
      → (load (number_of_flags fs) earlier).Fits p
  unfolding load tagged
  fit_load earlier ps p one holds =
      let all = count_append (IsFor p.reg) earlier (p ∷ ps) in
      let own = count_yes (IsFor p.reg) p ps (eq-eqb p.reg p.reg refl) in
      let total = one p.reg in
      let set : get_or fs p.reg false ≡ true = some_true (get_or fs p.reg false) (omega (arith, all, own, total)) in
      let only : one_if (get_or fs p.reg false) ≡ 1 = ap one_if set in
      let small : p.reg < 16 = within set in
      let bit : in_mask (number_of_flags fs) p.reg ≡ true = flag-get fs p.reg (omega arith) ∙ set in
      also (
        omega arith,
        or_from _ _ (or_from _ _ (not_le p.reg 16 small) (ap not bit)) (any_none (IsFor p.reg) earlier
            (count_none (IsFor p.reg) earlier (omega (arith, all, own, total, only)))),
      )
      (also (also (flag_small (is_pointer p.word), one_if_small (is_pointer p.word))
      (also (subst (λ b. (word b).Fits p.word) (sym (one_back (is_pointer p.word))) (fits_word p.word holds)) refl)) refl)
    where
      within : get_or fs p.reg false ≡ true → p.reg < 16
      within set = elim (cases_lt p.reg 16) as (λ _. p.reg < 16) [
        | inl small ↦ small
        | inr large ↦ absurd (let past = get_or_past fs p.reg false (omega (arith, long, large)) in cc)
      ]

  pub fit_loads : (earlier ps : List Pending) → AreOne (earlier ++ ps)
      → AllByRecursion (λ (p : Pending). IsWord p.word) ps
      → (times (load (number_of_flags fs)) (λ earlier p. earlier ++ p ∷ []) (length ps) earlier).Fits ps
  unfolding cons
  fit_loads earlier [] one words = refl
  fit_loads earlier (p ∷ ps) one words = (
    fit_load earlier ps p one words.0,
    fit_loads (earlier ++ p ∷ []) ps
        (λ r. ap (count_by (IsFor r)) (moved earlier ps p) ∙ one r) words.1,
  )

-- 3. What fits.

-- a slot that waits, and its event
pub record IsWaitingRow (r : SlotRow) : Type 0 where
  pub queued : Queued
  pub is : r.queued ≡ Some queued
  pub waits : is_waiting r.slot.state ≡ true
  pub handled : is_some r.slot.handler ≡ true
  pub slot : queued.event.slot ≡ r.slot.number
  pub ip : queued.event.ip ≡ r.slot.ip
  pub words : EventHoldsWords queued.event

pub record IsIdleRow (r : SlotRow) : Type 0 where
  pub none : r.queued ≡ None
  pub rests : is_waiting r.slot.state ≡ false

-- what the record of a slot says
pub record IsRow (split : Bool) (cycles : ℕ) (r : SlotRow) : Type 0 where
  pub typed : IsTypedSlot r.slot
  pub pending : IsPending r.slot
  pub turns : r.slot.turns ≤ cycles
  pub taken : r.slot.state ≡ Taken → r.slot.handler ≢ None
  pub plain : split ≡ false → r.slot.pending ≡ []
  pub event : IsWaitingRow r ⊎ IsIdleRow r

some_handler : (h : Option ℕ) → is_some h ≡ true → h ≢ None
some_handler None e n = absurd cc
some_handler (Some h) e n = absurd cc

no_loads : (ps : List Pending) → length ps ≡ 0 → ps ≡ []
no_loads [] e = refl
no_loads (p ∷ ps) e = absurd (omega arith)

module _ (split : Bool) (cycles : ℕ) (s : Slot) (r : SlotRow) where
  pub row_fits : (slot_row split cycles s).Fits r → IsRow split cycles r × (identity_of r.slot ≡ identity_of s)
  unfolding slot_row load_count Rattle.mm_format.specs.Images.mask Rattle.mm_format.specs.Images.flags_of register_of is_empty
  row_fits fits =
      let rest = fits.1.1.1.1.1 in
      let state = state_right (is_some s.handler) (state_byte r.slot.state) fits.0.1 in
      let ip = ip_fits r.slot.ip rest.0 in
      let tags = rest.1.0 in
      let empty = rest.1.1.0 in
      let regs = registers_fit _ _ r.slot.regs rest.1.1.1.0 in
      let address = operand_fits _ _ rest.1.1.1.1.0 in
      let value = operand_fits _ _ rest.1.1.1.1.1.0 in
      let count = eqb-true _ _ (not-false _ rest.1.1.1.1.1.1.0.1) in
      let loads = loads_fit (number_of_flags r.slot.empty) (length r.slot.pending) [] r.slot.pending
      rest.1.1.1.1.1.1.1.0 in
      let is = rest.1.1.1.1.1.1.1.1 in
      let mask : r.slot.empty ≡ flags 16 (number_of_flags r.slot.empty) = ap (λ (r : SlotRow). r.slot.empty) is in
      let same : identity_of r.slot ≡ identity_of s = ap (λ (r : SlotRow). identity_of r.slot) is in
      let handler : r.slot.handler ≡ s.handler = ap (λ x. x.2) same in (
        record {
          typed = record {
            executable = ip.1;
            well_formed = ip.0;
            registers = sym (length-map r.slot.regs is_pointer) ∙ ap length tags.1;
            words = regs.0;
            flags = ap length mask;
            loads = loads.1;
          };
          pending = λ k. record {
            loads = one_load (flags 16 (number_of_flags r.slot.empty)) r.slot.pending loads.0 count k
                ∙ ap (λ fs. one_if (get_or fs k false)) (sym mask);
            zero = λ e. regs.1 k (ap (λ fs. get_or fs k false) (sym mask) ∙ e);
          };
          turns = ltb-false _ _ fits.1.1.1.1.0.1;
          taken = λ e. some_handler r.slot.handler
              (ap is_some handler ∙ state.handled.1 (ap state_byte e));
          plain = λ e. no_loads r.slot.pending (count ∙ ap bits_set (none split e empty.1));
          event = by (state_byte r.slot.state == 1) refl same state.handled.0 (ap (λ (r : SlotRow). r.queued) is) ip.0
              address value;
        },
        same,
      )
    where
      none : (b : Bool) {n : ℕ} → b ≡ false → (not b && not (n == 0)) ≡ false → n ≡ 0
      none true e right = absurd cc
      none false {n = n} e right = eqb-true n 0 (not-false _ right)

      queued : Queued
      queued = record {
        place = place_in_row r.queued;
        event = record {
          slot = s.number;
          cause = unwrap_or (cause_of (cause_byte r.slot.state (event_in r))) NotPointer;
          ip = r.slot.ip;
          addr_op = address_in (event_in r);
          value_op = value_in (event_in r);
        };
      }

      by : (b : Bool) → (state_byte r.slot.state == 1) ≡ b → identity_of r.slot ≡ identity_of s
          → (state_byte r.slot.state ≡ 1 → is_some s.handler ≡ true) → r.queued ≡ cond b (Some queued) None
          → IsWellFormed r.slot.ip → IsWord (address_in (event_in r)) → IsWord (value_in (event_in r))
          → IsWaitingRow r ⊎ IsIdleRow r
      by true e same handled is ip address value = inl (record {
        queued = queued;
        is = is;
        waits = sym (byte_waits r.slot.state) ∙ e;
        handled = ap (λ x. is_some x.2) same ∙ handled (eqb-true _ 1 e);
        slot = sym (ap (λ x. x.0) same);
        ip = refl;
        words = record { ip = ip; address = address; value = value };
      })
      by false e same handled is ip address value =
          inr (record { none = is; rests = sym (byte_waits r.slot.state) ∙ e })

-- 4. What keeps the rules.

-- what a checkpoint says of a slot
pub record IsSavedSlot (split : Bool) (cycles : ℕ) (events : List (ℕ × Event)) (s : Slot) : Type 0 where
  pub typed : IsTypedSlot s
  pub owns : Owns events s
  pub taken : s.state ≡ Taken → s.handler ≢ None
  pub pending : IsPending s
  pub turns : s.turns ≤ cycles
  pub mode : split ≡ false → s.pending ≡ []

module _ (split : Bool) (cycles : ℕ) (small : cycles ≤ 1000000) (events : List (ℕ × Event)) (i s : Slot)
    (same : identity_of s ≡ identity_of i) (saved : IsSavedSlot split cycles events s)
    (few : place_byte events s < 256) where
  abbrev made : Event → Queued
  made e = record { place = place_byte events s; event = e }

  abbrev r : SlotRow
  r = row_of events s

  place_few : place_in_row r.queued < 256
  place_few = by (event_of events s.number)
    where
      by : (o : Option Event) → place_in_row (option_map made o) < 256
      by None = omega arith
      by (Some e) = few

  place_right : (not (state_byte s.state == 1) && not (place_in_row r.queued == 0)) ≡ false
  place_right = by saved.owns
    where
      none : (b : Bool) → (not b && not (0 == 0)) ≡ false
      none true = refl
      none false = refl

      by : Owns events s → (not (state_byte s.state == 1) && not (place_in_row r.queued == 0)) ≡ false
      by (inl a) = ap (λ (st : SlotState). not (state_byte st == 1) && not (place_in_row r.queued == 0)) a.waits
      by (inr idle) =
          ap (λ (o : Option Event). not (state_byte s.state == 1) && not (place_in_row (option_map made o) == 0))
          (ap (option_map (λ (x : ℕ × Event). x.1)) idle.found) ∙ none (state_byte s.state == 1)

  fits_get : (get : Option Event → Word) → IsZeroUnless (is_waiting s.state) (get (event_of events s.number))
      → (operand (state_byte s.state == 1)).Fits (get (event_in r))
  fits_get get h =
      subst (λ (o : Option Event). (operand (state_byte s.state == 1)).Fits (get o)) (sym (event_back events s))
      (subst (λ b. (operand b).Fits (get (event_of events s.number))) (sym (byte_waits s.state)) (fits_operand _ _ h))

  plain : (b : Bool) → split ≡ b → (not b && not (number_of_flags s.empty == 0)) ≡ false
  plain true e = refl
  plain false e = ap (λ n. not (n == 0)) (none_empty s saved.typed.flags saved.pending (saved.mode e))

  -- what its record says
  abbrev said : Option Queued → ℕ → Cause → Pointer → Queued
  said o slot cause ip = record {
    place = place_in_row o;
    event = record {
      slot = slot;
      cause = cause;
      ip = ip;
      addr_op = address_in (option_map (λ (q : Queued). q.event) o);
      value_op = value_in (option_map (λ (q : Queued). q.event) o);
    };
  }

  abbrev told : Queued
  told = said r.queued i.number (unwrap_or (cause_of (cause_byte s.state (event_in r))) NotPointer) s.ip

  queued_back : Owns events s → r.queued ≡ cond (state_byte s.state == 1) (Some told) None
  queued_back (inl a) =
      let found : event_of events s.number ≡ Some a.event = ap (option_map (λ (x : ℕ × Event). x.1)) a.found in
      let event : event_in r ≡ Some a.event = event_back events s ∙ found in
      let queued : r.queued ≡ Some (made a.event) = ap (option_map made) found in
      let cause : a.event.cause ≡ told.event.cause =
      sym (ap (λ (o : Option Event). unwrap_or (cause_of (cause_byte s.state o)) NotPointer) event
      ∙ ap (λ (st : SlotState). unwrap_or (cause_of (cause_byte st (Some a.event))) NotPointer) a.waits
      ∙ ap (λ (o : Option Cause). unwrap_or o NotPointer) (cause_back a.event.cause)) in
      let e = a.event in
      queued
      ∙ ap Some (ap (λ o. said o e.slot e.cause e.ip) (sym queued)
      ∙ ap (λ n. said r.queued n e.cause e.ip) (a.slot ∙ ap (λ x. x.0) same)
      ∙ ap (λ c. said r.queued i.number c e.ip) cause ∙ ap (said r.queued i.number told.event.cause) a.ip)
      ∙ sym (ap (λ b. cond b (Some told) None) (byte_waits s.state ∙ ap is_waiting a.waits))
  queued_back (inr idle) =
      ap (option_map made) (ap (option_map (λ (x : ℕ × Event). x.1)) idle.found)
      ∙ sym (ap (λ b. cond b (Some told) None) (byte_waits s.state ∙ idle.rests))

  abbrev said_row : ℕ × ℕ × Option ℕ → Bool → SlotState → List Bool → Option Queued → SlotRow
  said_row x past state empty queued = record {
    slot = record s { number = x.0; group = x.1; handler = x.2; past = past; state = state; empty = empty };
    queued = queued;
  }

  row_back : r ≡ said_row (identity_of i) (one_if s.past == 1)
      (state_of (state_byte s.state) (cause_byte s.state (event_in r))) (flags 16 (number_of_flags s.empty))
      (cond (state_byte s.state == 1) (Some told) None)
  row_back =
      let x = identity_of i in
      let past = one_if s.past == 1 in
      let state = state_of (state_byte s.state) (cause_byte s.state (event_in r)) in
      ap (λ x. said_row x s.past s.state s.empty r.queued) same
      ∙ ap (λ b. said_row x b s.state s.empty r.queued) (sym (one_back s.past))
      ∙ ap (λ st. said_row x past st s.empty r.queued) (sym (state_back s.state (event_in r)))
      ∙ ap (λ fs. said_row x past state fs r.queued) (sym (sixteen_flags s.empty saved.typed.flags))
      ∙ ap (said_row x past state (flags 16 (number_of_flags s.empty))) (queued_back saved.owns)

  pub fits_row : (slot_row split cycles i).Fits r
  unfolding slot_row load_count register_of is_empty
  fits_row =
      let t = saved.typed in
      let p = saved.pending in
      let handler : i.handler ≡ s.handler = ap (λ x. x.2) (sym same) in
      let turns = saved.turns in
      let set = pending_set s t.flags p in
      let mask : number_of_flags s.empty < 2 ^ 16 =
      subst (λ n. number_of_flags s.empty < 2 ^ n) t.flags (number_of_flags-below s.empty) in
      let most = count_by-le-length (λ (b : Bool). b) (flags 16 (number_of_flags s.empty)) in
      also (
        state_small s.state,
        ap (λ (o : Option ℕ). is_bad_state (is_some o) (state_byte s.state)) handler
            ∙ state_good events s saved.owns saved.taken,
      )
      (also (
        cause_small s.state (event_in r),
        ap (λ (o : Option Event). is_bad_cause (state_byte s.state)
            (cause_byte s.state o)) (event_back events s) ∙ cause_good events s saved.owns,
      )
      (also (place_few, place_right) (also (flag_small s.past, one_if_small s.past)
      (also (omega (arith, turns, small), le-ltb cycles s.turns turns) (also (fits_ip s.ip t.well_formed t.executable)
      (also (fits_mask (map is_pointer s.regs) (length-map s.regs is_pointer ∙ t.registers))
      (also (mask, plain split refl)
      (also (subst (λ fs. (each register (beside (map is_pointer s.regs) fs)).Fits s.regs)
      (sym (sixteen_flags s.empty t.flags))
      (fit_registers s.regs s.empty (t.registers ∙ sym t.flags) t.words (λ k e. (p k).zero e)))
      (also (fits_get address_in (operand_good events s address_in refl (λ e h. h.address) saved.owns))
      (also (fits_get value_in (operand_good events s value_in refl (λ e h. h.value) saved.owns))
      (also (omega (arith, set, most), ap not (eq-eqb _ _ set))
      (also (fit_loads s.empty t.flags [] s.pending (λ k. (p k).loads) t.loads) row_back))))))))))))
