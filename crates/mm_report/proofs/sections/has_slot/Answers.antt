use Rattle.std.proofs.Common.{◌≡◌, ℕ, ◌<◌, ◌==◌, ◌∙◌, false, true, ap, sym, length, arith}
use Rattle.std.proofs.lemmas.{List.take_all, Bool.Decides.nat_tests, Map.Keys.any_passes_from_place}
use Rattle.std.specs.List.{list_any}
use Rattle.mm_model.specs.{Slot.Slot, Fits.slots_of}
use Rattle.mm_report.proofs.Members.{none_more, any_slot}
use Rattle.mm_report.proofs.sections.has_slot.Goals as goal

same_test : (x y n : ℕ) → x ≡ y → x ≡ n → (y == n) ≡ true
same_test x y n same is = grind (arith, nat_tests)

other_test : (x y n : ℕ) → x ≡ y → (x ≡ n → ⊥) → (y == n) ≡ false
other_test x y n same is = grind (arith, nat_tests)

pub returns-then-nth_slot-group : goal.returns-then-nth_slot-group
returns-then-nth_slot-group g c =
    let slot = c.nth_slot.result.now in
    let same : c.behind-m.inside.group ≡ slot.group = ap (λ (s : Slot). s.group) c.behind-m.view_is in
    sym (any_passes_from_place (λ (s : Slot). s.group == c.args.group) (slots_of c.args.m.now.core) c.loop-i.i slot c.nth_slot.ensures
    (same_test c.behind-m.inside.group slot.group c.args.group same c.if-nth_slot-group.true))
    ∙ any_slot c.args.group c.args.m.now.core

pub loop-i-preserved : goal.loop-i-preserved
loop-i-preserved g c =
    let slot = c.nth_slot.result.now in
    let same : c.behind-m.inside.group ≡ slot.group = ap (λ (s : Slot). s.group) c.behind-m.view_is in
    let inside : c.loop-i.i < length (slots_of c.args.m.now.core) = omega (arith, c.slot_count-i-end.ensures, c.loop-i-test.true) in
    none_more (λ (s : Slot). s.group == c.args.group) (slots_of c.args.m.now.core) c.loop-i.i slot inside c.nth_slot.ensures c.loop-i.invariant
    (other_test c.behind-m.inside.group slot.group c.args.group same c.if-nth_slot-group.false)

pub returns : goal.returns
returns g c =
    sym c.loop-i.invariant
    ∙ ap (list_any (λ (s : Slot). s.group == c.args.group)) (take_all c.loop-i.i (slots_of c.args.m.now.core) (omega (arith, c.slot_count-i-end.ensures, c.loop-i-test.false)))
    ∙ any_slot c.args.group c.args.m.now.core
