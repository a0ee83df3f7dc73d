-- What is granted in a swept image was granted before, and does not meet the range.
use Rattle.std.proofs.Common.{◌≡◌, ℕ, inl, inr, Bool, false, List, map, Option, Some, None, Result, Ok, Err, refl, sym}
use Rattle.std.proofs.{Common.{ap, ◌∙◌, subst}, lemmas.Bool.false_from_ne_true}
use Rattle.std.specs.{Prelude.{Contains, IfOk}, List.AllByRecursion, Option.option_map}
use Rattle.mm_word.specs.{declared.{perm.Perm.Perm, word.{Word.{Word, TheVariants.Ptr}, Cell.Cell}}, Access.AccessValue}
use Rattle.mm_word.specs.{Perm.execute_form, Pointer.{Pointer, IsBelow, enter_result}}
use Rattle.mm_model.specs.{Slot.Slot, Image.Image}
use Rattle.mm_model.specs.Reach.{Entries, Grants, Serves, CanTouch, CanWrite, Entries.{All, These}, Grants.below}
use Rattle.mm_model.{specs.Worlds.Apart, proofs.CoreRows.each_map}
use Rattle.mm_laws.specs.{Grants.AllGrantMost, Granted.TouchGranted}
use Rattle.mm_sweep.specs.{Swept.{InRange, meets, swept_word, swept_slot, swept}, Refusals.CanSweep}
use Rattle.mm_sweep.specs.{declared.sweeping.SweepError.SweepError, Laws.{Revokes, SweepingRevokes}}
use Rattle.mm_sweep.proofs.{Sharing.{inside_free, covers_none}, SweptWords.{From, from_map, kept_word, cell_was}}

-- 1. The rules.

module _ (range : ℕ × ℕ) where
  below_free : (p q : Pointer) → IsBelow q p → meets range p ≡ false → meets range q ≡ false
  below_free p q (inl same) free = subst (λ v. meets range v ≡ false) (sym same) free
  below_free p q (inr narrows) free = inside_free range p q narrows.inside free

  enters_free : (p q : Pointer) → enter_result p ≡ Some q → meets range p ≡ false → meets range q ≡ false
  enters_free p q e free = by (execute_form p.perm) e
    where
      by : (o : Option Perm) → ◌≡◌ {A = Option Pointer} (option_map (λ perm. record p { perm = perm }) o) (Some q) → meets range q ≡ false
      by None h = cc
      by (Some perm) h =
          let same : ◌≡◌ {A = Pointer} (record p { perm = perm }) q = cc in
          subst (λ v. meets range v ≡ false) same free

  slot_was : (i : Image) (s : Slot) → Contains (swept range i).slots s → From (swept_slot range) i.slots s
  slot_was i s m = from_map (swept_slot range) i.slots s m

  serves_before : (i : Image) (g h : ℕ) → Serves (swept range i) g h → Serves i g h
  serves_before i g h x =
      let one = slot_was i x.served x.one in
      let other = slot_was i x.server x.other in
      let first : one.element.group ≡ x.served.group = ap (λ (s : Slot). s.group) one.gives in
      let second : other.element.group ≡ x.server.group = ap (λ (s : Slot). s.group) other.gives in
      record {
        served = one.element;
        server = other.element;
        one = one.stands;
        other = other.stands;
        handled = ap (λ (s : Slot). s.handler) one.gives ∙ x.handled ∙ sym (ap (λ (s : Slot). Some s.number) other.gives);
        groups = elim x.groups [
          | inl two ↦ inl (first ∙ two.0, second ∙ two.1)
          | inr two ↦ inr (first ∙ two.0, second ∙ two.1)
        ];
      }

-- 2. The grants.

module _ (most : AllGrantMost) (range : ℕ × ℕ) (i : Image) (can : CanSweep range i) where
  to_all : (e : Entries) (g : ℕ) (q : Pointer) → Grants i e g q → Grants i All g q
  to_all All g q h = h
  to_all (These list) g q h = most i list g q h

  ip_free : (s : Slot) → Contains i.slots s → meets range s.ip ≡ false
  ip_free s m = false_from_ne_true (meets range s.ip) (λ t. can.held s.number (record { slot = s; stands = m; number = refl; meets = t }))

  record Before (e : Entries) (g : ℕ) (q : Pointer) : Type 0 where
    granted : Grants i e g q
    free : meets range q ≡ false

  before : (e : Entries) {g : ℕ} {q : Pointer} → Grants (swept range i) e g q → Before e g q
  before e (Grants.in_register {g = g} {q = q} s at is reg) =
      let slot = slot_was range i s at in
      let there : Contains (map (swept_word range) slot.element.regs) (Ptr q) = subst (λ (v : Slot). Contains v.regs (Ptr q)) (sym slot.gives) reg in
      let word = from_map (swept_word range) slot.element.regs (Ptr q) there in
      let kept = kept_word range word.element q word.gives in
      record {
        granted = Grants.in_register slot.element slot.stands (ap (λ (v : Slot). v.group) slot.gives ∙ is) (subst (λ (v : Word). Contains slot.element.regs v) kept.was word.stands);
        free = kept.free;
      }
  before e (Grants.runs_by {g = g} {q = q} s at is ip) =
      let slot = slot_was range i s at in
      let same : slot.element.ip ≡ q = ap (λ (v : Slot). v.ip) slot.gives ∙ ip in
      record {
        granted = Grants.runs_by slot.element slot.stands (ap (λ (v : Slot). v.group) slot.gives ∙ is) same;
        free = subst (λ v. meets range v ≡ false) same (ip_free slot.element slot.stands);
      }
  before e (Grants.in_cell {g = g} {q = q} p w c by ld at is) =
      let cell = cell_was range i.memory w c at in
      let kept = kept_word range cell.before.word q (ap (λ (v : Cell). v.word) cell.gives ∙ is) in
      let old = before e by in
      record { granted = Grants.in_cell p w cell.before old.granted ld cell.stood kept.was; free = kept.free }
  before e (below {g = g} {q = q} p by b) =
      let old = before e by in
      record { granted = below p old.granted b; free = below_free range p q b old.free }
  before e (Grants.passed h w p r what to st by ld) =
      let old = before e what in
      let front = before e to in
      let back = before e by in
      record { granted = Grants.passed h w p r old.granted front.granted st back.granted ld; free = old.free }
  before e (Grants.entered {g = g} {q = q} p by perm may is) =
      let old = before e by in
      record { granted = Grants.entered p old.granted perm may is; free = enters_free range p q is old.free }
  before e (Grants.served {g = g} h by s) =
      let old = before e by in
      record { granted = Grants.served h old.granted (serves_before range i g h s); free = old.free }
  before e (Grants.made {g = g} p by x well) =
      let old = before e by in
      absurd (can.privileged g (record { by = p; granted = to_all e g p old.granted; perm = x }))

  -- 3. What the groups can reach.

  touch_before : (e : Entries) (g w : ℕ) → CanTouch (swept range i) e g w → CanTouch i e g w
  touch_before e g w t = let old = before e t.granted in record { by = t.by; granted = old.granted; loads = t.loads }

  write_before : (e : Entries) (g w : ℕ) → CanWrite (swept range i) e g w → CanWrite i e g w
  write_before e g w t = let old = before e t.granted in record { by = t.by; granted = old.granted; stores = t.stores }

  apart_after : (e : Entries) (c : ℕ → Bool) → Apart i e c → Apart (swept range i) e c
  apart_after e c apart = record {
    writes = λ g w out writes touchable.
        apart.writes g w out (write_before e g w writes) (record { group = touchable.group; member = touchable.member; touches = touch_before e touchable.group w touchable.touches });
    handlers = λ s h s_is h_is handled.
        let one = slot_was range i s s_is in
        let other = slot_was range i h h_is in
        sym (ap (λ (v : Slot). c v.group) one.gives)
        ∙ apart.handlers one.element other.element one.stands other.stands (ap (λ (v : Slot). v.handler) one.gives ∙ handled ∙ sym (ap (λ (v : Slot). Some v.number) other.gives))
        ∙ ap (λ (v : Slot). c v.group) other.gives;
  }

  pub revokes : Revokes range i (swept range i)
  revokes = record {
    unreached = λ e g w within touch. let old = before e touch.granted in covers_none range touch.by w old.free touch.loads.covers within;
    touch = touch_before;
    write = write_before;
    apart = apart_after;
  }

  -- 4. What a turn touches.

  touch_free : (e : Entries) (g : ℕ) (t : AccessValue) → TouchGranted (swept range i) e g t → ¬ (InRange range t.addr)
  touch_free e g t granted within = let old = before e granted.granted in covers_none range granted.by t.addr old.free granted.covers within

  pub touches_free : (e : Entries) (g : ℕ) (touches : List AccessValue) → AllByRecursion (TouchGranted (swept range i) e g) touches
      → AllByRecursion (λ (t : AccessValue). ¬ (InRange range t.addr)) touches
  touches_free e g touches h = each_map (TouchGranted (swept range i) e g) (λ (t : AccessValue). ¬ (InRange range t.addr)) (touch_free e g) touches h

-- so does the answer of a call that sweeps
pub revokes_swept : SweepingRevokes → {range range' : ℕ × ℕ} → range ≡ range'
    → (i : Image) (r : Result Image SweepError) → IfOk r (λ j. CanSweep range i) → IfOk r (λ j. j ≡ swept range i)
    → IfOk r (λ j. Revokes range' i j)
revokes_swept law {range} {range'} same i (Ok j) can is = subst (λ v. Revokes v i j) same (subst (Revokes range i) (sym is) (law range i can))
revokes_swept law same i (Err e) can is = tt
