use Rattle.std.proofs.Common.{◌∙◌, sym, ap, subst}
use Rattle.mm_model.specs.Slot.{Slot}
use Rattle.mm_sweep.{specs.Refusals.FirstHeld, proofs.FirstSlots.first_held}
use Rattle.mm_sweep.proofs.refusing.held.Goals as goal

pub returns-then-is_held : goal.returns-then-is_held
returns-then-is_held c =
    subst (FirstHeld c.args.range.now c.args.img.now) (sym (ap (λ (s : Slot). s.number) c.slot.view_is))
    (first_held c.args.range.now c.args.img.now c.slots-slots.result.now (sym c.slots-slots.ensures.slots)
    c.slots-slots.ensures.image c.loop-slot.slot-index c.slot-item.result c.loop-slot-test.true c.slot-item.is
    c.loop-slot.invariant
    (sym c.is_held.ensures ∙ c.if-is_held.true))
