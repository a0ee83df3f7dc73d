use Rattle.std.proofs.Common.{◌≡◌, ◌+◌, ◌*◌, ◌%◌, ◌^◌, ◌<◌, ◌∙◌, ◌++◌, [], ◌∷◌, bit_or, take, sym, ap, subst}
use Rattle.std.proofs.lemmas.List.{take_more}
use Rattle.mm_model.specs.{Slot.Slot, Groups.among}
use Rattle.mm_audit.proofs.Leaving.{IsNumbers, no_numbers, numbers_more, numbers_skip}
use Rattle.mm_audit.proofs.refusals.numbers_inside.Goals.{then-is_inside, else-is_inside}
use Rattle.mm_audit.proofs.refusals.numbers_inside.Goals as goal

pub loop-slot-init : goal.loop-slot-init
loop-slot-init c = no_numbers (among c.args.groups.now)

pub loop-slot-preserved : goal.loop-slot-preserved
loop-slot-preserved c =
    let test = among c.args.groups.now in
    let s : Slot = c.slot-item.result in
    let before = take c.loop-slot.slot-index c.args.slots.now in
    let more = take_more c.args.slots.now c.loop-slot.slot-index s c.loop-slot-test.true ∙ ap (λ (v : Slot). before ++ v ∷ []) (sym c.slot-item.is) in
    let small : s.number < 64 = subst (λ (v : Slot). v.number < 64) (sym c.slot-item.is) (c.requires c.loop-slot.slot-index s c.loop-slot-test.true) in
    let member : c.is_inside.result ≡ test s.group = c.is_inside.ensures ∙ ap (λ (v : Slot). test v.group) c.slot.view_is in
    elim c.if-is_inside.branch [
      | then-is_inside w ↦
          subst (λ m. IsNumbers m (take (c.loop-slot.slot-index + 1) c.args.slots.now) test)
          (sym (w.inside-is ∙ ap (λ (v : Slot). bit_or c.loop-slot.inside (1 * 2 ^ v.number % 2 ^ 64))
          c.slot.view_is))
          (subst (λ l. IsNumbers (bit_or c.loop-slot.inside (1 * 2 ^ s.number % 2 ^ 64)) l test) (sym more)
          (numbers_more c.loop-slot.inside before test s c.loop-slot.invariant small
          (sym member ∙ w.if-is_inside.true)))
      | else-is_inside w ↦
          subst (λ m. IsNumbers m (take (c.loop-slot.slot-index + 1) c.args.slots.now) test) (sym w.inside-is)
          (subst (λ l. IsNumbers c.loop-slot.inside l test) (sym more) (numbers_skip c.loop-slot.inside before test s c.loop-slot.invariant (sym member ∙ w.if-is_inside.false)))
    ]
