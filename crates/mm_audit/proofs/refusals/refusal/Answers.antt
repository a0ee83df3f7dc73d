use Rattle.std.{proofs.Common.{◌≡◌, ◌∙◌, true, false, Some, None, sym, ap, subst}, specs.List.list_any}
use Rattle.mm_model.specs.{Slot.Slot, Groups.among}
use Rattle.mm_audit.specs.Inside.{first_leaving}
use Rattle.mm_audit.proofs.Leaving.{IsNumbers, all_stay, first_crosses, no_group, some_group}
use Rattle.mm_audit.proofs.refusals.refusal.Goals as goal

pub returns-in-Some : goal.returns-in-Some
returns-in-Some c =
    let test = among c.args.groups.now in
    let slots = c.slots-slots.ensures.slots in
    let numbers = subst (λ l. IsNumbers c.numbers_inside.result l test) slots c.numbers_inside.ensures in
    let some : list_any (λ (s : Slot). test s.group) c.args.img.now.slots ≡ true = ap (list_any (λ (s : Slot). test s.group)) (sym slots) ∙ sym c.has_group.ensures ∙ c.if-not-has_group.false in
    let first : first_leaving c.numbers_inside.result c.args.img.now.slots ≡ Some c.in-Some.slot = ap
    (first_leaving c.numbers_inside.result) (sym slots) ∙ sym c.first_leaving.ensures ∙ c.in-Some.is in
    (some_group c.args.img.now test some, first_crosses c.args.img.now c.slots-slots.ensures.image test c.numbers_inside.result numbers c.in-Some.slot first)

pub returns-in-None : goal.returns-in-None
returns-in-None c =
    let test = among c.args.groups.now in
    let slots = c.slots-slots.ensures.slots in
    let numbers = subst (λ l. IsNumbers c.numbers_inside.result l test) slots c.numbers_inside.ensures in
    let some : list_any (λ (s : Slot). test s.group) c.args.img.now.slots ≡ true = ap (list_any (λ (s : Slot). test s.group)) (sym slots) ∙ sym c.has_group.ensures ∙ c.if-not-has_group.false in
    let none : first_leaving c.numbers_inside.result c.args.img.now.slots ≡ None = ap (first_leaving c.numbers_inside.result) (sym slots) ∙ sym c.first_leaving.ensures ∙ c.in-None.is in
    record { some = some_group c.args.img.now test some; closed = all_stay c.args.img.now c.slots-slots.ensures.image test c.numbers_inside.result numbers none }

pub returns-then-not-has_group : goal.returns-then-not-has_group
returns-then-not-has_group c s m =
    let test = among c.args.groups.now in
    let none : list_any (λ (v : Slot). test v.group) c.args.img.now.slots ≡ false = ap
    (list_any (λ (v : Slot). test v.group)) (sym c.slots-slots.ensures.slots) ∙ sym c.has_group.ensures
    ∙ c.if-not-has_group.true in
    no_group c.args.img.now test none s m
