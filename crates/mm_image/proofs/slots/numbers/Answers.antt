use Rattle.std.proofs.Common.{true, refl, sym, ap, ◌∙◌, length-set}
use Rattle.mm_model.specs.Slot.{Slot}
use Rattle.mm_image.proofs.Present.{none_yet, one_number_more}
use Rattle.mm_image.proofs.slots.numbers.Goals as goal

pub loop-slot-init : goal.loop-slot-init
loop-slot-init c = record { holds = none_yet; long = refl }

pub loop-slot-preserved : goal.loop-slot-preserved
loop-slot-preserved c =
    let l = c.loop-slot in
    let number = sym (ap (λ (s : Slot). s.number) c.slot.view_is) in
    record {
      holds = one_number_more l.present c.args.slots.now l.slot-index c.slot.inside.number c.slot-item.result l.invariant.long c.loop-slot-test.true (sym c.slot-item.is) number l.invariant.holds;
      long = length-set l.present c.slot.inside.number true ∙ l.invariant.long;
    }
