-- The bytes of a slot's state and of its cause, and of the event that it waits with.
use Rattle.std.proofs.Common.{◌≡◌, ◌≢◌, ℕ, zero, suc, ◌+◌, ◌<◌, ◌≤◌, Bool, true, false, not, nat_lt, inl, inr, List, []}
use Rattle.std.proofs.Common.{◌∷◌, length, Option, Some, None, refl, sym, ap, subst, ◌∙◌, arith, eqb-true}
use Rattle.std.proofs.lemmas.Bool.{or_from, ne_eqb, le-ltb, or_parts, not-false, ltb-false, eqb-false}
use Rattle.std.specs.Prelude.{◌==◌, ◌&&◌, ◌||◌, is_some, unwrap_or, option_map}
use Rattle.mm_word.specs.declared.{cause.Cause.{Cause, TheVariants.NotPointer}, word.Word.{Word, TheVariants.Int}}
use Rattle.mm_word.specs.{Cause.{number_of, cause_of}, Word.IsWord}
use Rattle.mm_word.proofs.Causes.{cause_back, number_within, number_back}
use Rattle.mm_model.specs.declared.event.Event.{Event}
use Rattle.mm_model.specs.declared.slot.SlotState.{SlotState, TheVariants.{Running, Waiting, Taken, Halted}}
use Rattle.mm_model.specs.{Slot.Slot, Fits.{is_waiting, EventHoldsWords}}
use Rattle.mm_checkpoint.specs.{Checkpoints.{state_byte, event_of, cause_byte}, Reading.state_of}
use Rattle.mm_checkpoint.{specs.Tests.{is_bad_state, is_bad_cause}, proofs.Owns.Owns}

-- 1. Causes and their numbers.

-- of a fault
waiting_cause : (ca : ℕ) → (ca == 0) ≡ false → ca ≤ 13 → number_of (unwrap_or (cause_of ca) NotPointer) ≡ ca
waiting_cause zero some le = absurd (eqb-false 0 0 some refl)
waiting_cause (suc n) some le =
    let it = number_back (suc n) (omega arith) le in ap (λ o. number_of (unwrap_or o NotPointer)) it.1 ∙ it.2

-- of a slot that was halted
halted_cause : (ca : ℕ) (event : Option Event) → ca ≤ 13 → cause_byte (Halted (cause_of ca)) event ≡ ca
halted_cause zero event le = refl
halted_cause (suc n) event le =
    let it = number_back (suc n) (omega arith) le in ap (λ o. cause_byte (Halted o) event) it.1 ∙ it.2

few_causes : (c : Cause) → nat_lt 13 (number_of c) ≡ false
few_causes c = le-ltb 13 (number_of c) (number_within c).1

known : (c : Cause) → (number_of c == 0 || nat_lt 13 (number_of c)) ≡ false
known c =
    let some = (number_within c).0 in
    or_from (number_of c == 0) (nat_lt 13 (number_of c)) (ne_eqb (number_of c) 0 (λ e. omega (arith, some, e)))
    (few_causes c)

-- 2. Bytes that are read.

pub record IsState (has : Bool) (st : ℕ) : Type 0 where
  pub known : st ≤ 3
  pub handled : (st ≡ 1 → has ≡ true) × (st ≡ 2 → has ≡ true)

pub state_right : (has : Bool) (st : ℕ) → is_bad_state has st ≡ false → IsState has st
state_right has st e =
    let tests = or_parts _ _ e in record { known = ltb-false 3 st tests.0; handled = handled has tests.1 }
  where
    handled : (has : Bool) → (not has && (st == 1 || st == 2)) ≡ false → (st ≡ 1 → has ≡ true) × (st ≡ 2 → has ≡ true)
    handled true e = (λ s. refl, λ s. refl)
    handled false e =
        let tests = or_parts _ _ e in (λ s. absurd (eqb-false st 1 tests.0 s), λ s. absurd (eqb-false st 2 tests.1 s))

pub state_again : (st ca : ℕ) → st ≤ 3 → state_byte (state_of st ca) ≡ st
state_again zero ca le = refl
state_again (suc zero) ca le = refl
state_again (suc (suc zero)) ca le = refl
state_again (suc (suc (suc zero))) ca le = refl
state_again (suc (suc (suc (suc n)))) ca le = absurd (omega arith)

-- where the event of a slot that waits is known
pub cause_again : (st ca : ℕ) (event : Option Event) → st ≤ 3 → is_bad_cause st ca ≡ false
    → (st ≡ 1 → (e : Event) × (event ≡ Some e) × (e.cause ≡ unwrap_or (cause_of ca) NotPointer))
    → cause_byte (state_of st ca) event ≡ ca
cause_again zero ca event le right has = sym (eqb-true ca 0 (not-false _ right))
cause_again (suc zero) ca event le right has =
    let tests = or_parts _ _ right in
    let it = has refl in
    ap (cause_byte Waiting) it.1 ∙ ap number_of it.2 ∙ waiting_cause ca tests.0 (ltb-false 13 ca tests.1)
cause_again (suc (suc zero)) ca event le right has = sym (eqb-true ca 0 (not-false _ right))
cause_again (suc (suc (suc zero))) ca event le right has = halted_cause ca event (ltb-false 13 ca right)
cause_again (suc (suc (suc (suc n)))) ca event le right has = absurd (omega arith)

-- 3. Bytes that are spelled.

pub state_small : (state : SlotState) → state_byte state < 256
state_small Running = omega arith
state_small Waiting = omega arith
state_small Taken = omega arith
state_small (Halted c) = omega arith

pub cause_small : (state : SlotState) (event : Option Event) → cause_byte state event < 256
cause_small Running event = omega arith
cause_small Waiting None = omega arith
cause_small Waiting (Some event) = let le = ltb-false 13 _ (few_causes event.cause) in omega arith
cause_small Taken event = omega arith
cause_small (Halted None) event = omega arith
cause_small (Halted (Some c)) event = let le = ltb-false 13 _ (few_causes c) in omega arith

pub byte_waits : (state : SlotState) → (state_byte state == 1) ≡ is_waiting state
byte_waits Running = refl
byte_waits Waiting = refl
byte_waits Taken = refl
byte_waits (Halted c) = refl

pub state_back : (state : SlotState) (o : Option Event) → state_of (state_byte state) (cause_byte state o) ≡ state
state_back Running o = refl
state_back Waiting o = refl
state_back Taken o = refl
state_back (Halted None) o = refl
state_back (Halted (Some c)) o = ap Halted (cause_back c)

-- a word, and integer 0 if it does not count
pub record IsZeroUnless (counts : Bool) (w : Word) : Type 0 where
  pub word : IsWord w
  pub zero : counts ≡ false → w ≡ Int 0

module _ (events : List (ℕ × Event)) (s : Slot) where
  pub state_good : Owns events s → (s.state ≡ Taken → s.handler ≢ None)
      → is_bad_state (is_some s.handler) (state_byte s.state) ≡ false
  state_good (inl a) taken =
      ap (λ (st : SlotState). is_bad_state (is_some s.handler) (state_byte st)) a.waits
      ∙ ap (λ (o : Option ℕ). is_bad_state (is_some o) 1) a.handled
  state_good (inr idle) taken = by s.state s.handler idle.rests taken
    where
      by : (state : SlotState) (o : Option ℕ) → is_waiting state ≡ false → (state ≡ Taken → o ≢ None)
          → is_bad_state (is_some o) (state_byte state) ≡ false
      by Waiting o rests taken = absurd cc
      by Taken None rests taken = absurd (taken refl refl)
      by Taken (Some h) rests taken = refl
      by Running None rests taken = refl
      by Running (Some h) rests taken = refl
      by (Halted c) None rests taken = refl
      by (Halted c) (Some h) rests taken = refl

  pub cause_good : Owns events s → is_bad_cause (state_byte s.state) (cause_byte s.state (event_of events s.number)) ≡ false
  cause_good (inl a) =
      ap (λ (st : SlotState). is_bad_cause (state_byte st) (cause_byte st (event_of events s.number))) a.waits
      ∙ ap (λ (o : Option Event). is_bad_cause 1 (cause_byte Waiting o)) (ap (option_map (λ (x : ℕ × Event). x.1)) a.found)
      ∙ known a.event.cause
  cause_good (inr idle) = by s.state idle.rests
    where
      by : (state : SlotState) → is_waiting state ≡ false
          → is_bad_cause (state_byte state) (cause_byte state (event_of events s.number)) ≡ false
      by Waiting rests = absurd cc
      by Running rests = refl
      by Taken rests = refl
      by (Halted None) rests = refl
      by (Halted (Some c)) rests = few_causes c

  -- an operand of the event, if there is one
  pub operand_good : (get : Option Event → Word) → get None ≡ Int 0
      → ((e : Event) → EventHoldsWords e → IsWord (get (Some e))) → Owns events s
      → IsZeroUnless (is_waiting s.state) (get (event_of events s.number))
  operand_good get none holds (inl a) =
      let waits : is_waiting s.state ≡ true = ap is_waiting a.waits in
      subst (λ (o : Option Event). IsZeroUnless (is_waiting s.state) (get o))
      (sym (ap (option_map (λ (x : ℕ × Event). x.1)) a.found))
      (record { word = holds a.event a.words; zero = λ rests. absurd cc })
  operand_good get none holds (inr idle) =
      subst (λ (o : Option Event). IsZeroUnless (is_waiting s.state) (get o))
      (sym (ap (option_map (λ (x : ℕ × Event). x.1)) idle.found))
      (subst (IsZeroUnless (is_waiting s.state)) (sym none) (record { word = omega arith; zero = λ rests. refl }))
