use Rattle.std.proofs.Common.{◌≡◌, ◌<◌, ◌≤◌, ◌∷◌, [], ◌++◌, List, Bool, true, false, length, refl, sym, subst, ap, ◌∙◌}
use Rattle.std.{proofs.Common.{arith, eqb-true, eq-eqb}, specs.{Prelude.◌==◌, List.refill}}
use Rattle.mm_model.specs.Counted.{has}
use Rattle.mm_vmem.specs.{Entries.{AreEntries, pages_in, entries_without, after_look_up}, declared.tlb.Entry.Entry}
use Rattle.mm_vmem.proofs.Entries.{entries_entered, refilled, after_found, after_full, after_room}
use Rattle.mm_vmem.proofs.tlb.Tlb.look_up.Goals as goal

-- its page was there

found : (c : goal.In-None) → refill (length c.self.inside.entries.items) c.self.inside.entries.items c.move_down.new.entries ≡ after_look_up
    (record { page = c.args.page; frame = c.args.frame }) c.self.inside.entries.items
found c =
    let e : Entry = record { page = c.args.page; frame = c.args.frame } in
    let old : List Entry = c.self.inside.entries.items in
    let long : length c.move_down.new.entries ≡ length old = c.move_down.auto.entries ∙ ap length c.as_mut_slice.ensures.value in
    refilled old c.move_down.new.entries long
    ∙ after_found e old c.self.invariant.few c.move_down.new.entries long (c.in-None.ensures.moved ∙ ap (λ (xs : List Entry). e ∷ entries_without c.args.page xs) c.as_mut_slice.ensures.value)

pub invariant_of-self : goal.invariant_of-self
invariant_of-self c = subst AreEntries (sym (found c)) (entries_entered (record { page = c.args.page; frame = c.args.frame }) c.self.inside.entries.items c.self.invariant)

pub returns-in-None-clause-after : goal.returns-in-None-clause-after
returns-in-None-clause-after c = found c ∙ ap (after_look_up (record { page = c.args.page; frame = c.args.frame })) c.self.view_is

-- it was not there

absent : (b : Bool) → (b ≡ true → true ≡ false) → b ≡ false
absent true h = cc (h refl)
absent false h = refl

module _ (e last : Entry) (old read new : List Entry) (few : length old ≤ 16) (value : read ≡ old) (long : length new ≡ length read) (left : new ++ last ∷ [] ≡ e ∷ read)
    (none : has e.page (pages_in read) ≡ true → true ≡ false) where
  not_there : has e.page (pages_in old) ≡ false
  not_there = ap (λ (xs : List Entry). has e.page (pages_in xs)) (sym value) ∙ absent (has e.page (pages_in read)) none

  shifted : new ++ last ∷ [] ≡ e ∷ old
  shifted = left ∙ ap (λ (xs : List Entry). e ∷ xs) value

  same_length : length new ≡ length old
  same_length = long ∙ ap length value

  same_items : refill (length old) old new ≡ new
  same_items = refilled old new same_length

  same_count : length (refill (length old) old new) ≡ length old
  same_count = ap length same_items ∙ same_length

  full : (b : Bool) → b ≡ (length (refill (length old) old new) == 16) → b ≡ true → refill (length old) old new ≡ after_look_up e old
  full b test was =
      let whole : length (refill (length old) old new) ≡ 16 = eqb-true (length (refill (length old) old new)) 16 (sym test ∙ was) in
      same_items ∙ after_full e old few last new not_there (same_length ∙ sym same_count ∙ whole) shifted

  room : (b : Bool) → b ≡ (length (refill (length old) old new) == 16) → b ≡ false → refill (length old) old new ++ last ∷ [] ≡ after_look_up e old
  room b test was =
      let apart : (length old ≡ 16 → ⊥) = λ whole. cc (eq-eqb (length (refill (length old) old new)) 16 (same_count ∙ whole), test, was) in
      let less : length new < 16 = omega (arith, same_length, few, apart) in
      ap (λ (xs : List Entry). xs ++ last ∷ []) same_items ∙ after_room e old few last new not_there less shifted

kept : (c : goal.Else-not-is_full) → refill (length c.self.inside.entries.items) c.self.inside.entries.items c.move_down.new.entries ≡ after_look_up
    (record { page = c.args.page; frame = c.args.frame }) c.self.inside.entries.items
kept c =
    full (record { page = c.args.page; frame = c.args.frame }) c.in-Some.last c.self.inside.entries.items c.as_mut_slice.result.now c.move_down.new.entries c.self.invariant.few
    c.as_mut_slice.ensures.value c.move_down.auto.entries c.in-Some.ensures.left c.in-Some.ensures.found.1 c.is_full.result c.is_full.ensures.value c.if-not-is_full.false

pub invariant_of-self-else-not-is_full : goal.invariant_of-self-else-not-is_full
invariant_of-self-else-not-is_full c = subst AreEntries (sym (kept c)) (entries_entered (record { page = c.args.page; frame = c.args.frame }) c.self.inside.entries.items c.self.invariant)

pub returns-else-not-is_full-clause-after : goal.returns-else-not-is_full-clause-after
returns-else-not-is_full-clause-after c = kept c ∙ ap (after_look_up (record { page = c.args.page; frame = c.args.frame })) c.self.view_is

pushed : (c : goal.After-push) → c.push.new.self.items ≡ after_look_up (record { page = c.args.page; frame = c.args.frame }) c.self.inside.entries.items
pushed c =
    c.push.ensures.items
    ∙ room (record { page = c.args.page; frame = c.args.frame }) c.in-Some.last c.self.inside.entries.items c.as_mut_slice.result.now c.move_down.new.entries c.self.invariant.few
    c.as_mut_slice.ensures.value c.move_down.auto.entries c.in-Some.ensures.left c.in-Some.ensures.found.1 c.is_full.result c.is_full.ensures.value c.if-not-is_full.true

pub invariant_of-self-then-not-is_full : goal.invariant_of-self-then-not-is_full
invariant_of-self-then-not-is_full c = subst AreEntries (sym (pushed c)) (entries_entered (record { page = c.args.page; frame = c.args.frame }) c.self.inside.entries.items c.self.invariant)

pub returns-then-not-is_full-clause-after : goal.returns-then-not-is_full-clause-after
returns-then-not-is_full-clause-after c = pushed c ∙ ap (after_look_up (record { page = c.args.page; frame = c.args.frame })) c.self.view_is
