use Rattle.std.proofs.Common.{◌∙◌, Some, sym, ap}
use Rattle.mm_model.specs.Slot.{Slot}
use Rattle.mm_audit.proofs.Leaving.{leaving_here, leaving_later, leaving_end}
use Rattle.mm_audit.proofs.refusals.first_leaving.Goals as goal

pub returns-then-leaves : goal.returns-then-leaves
returns-then-leaves c =
    ap (λ (v : Slot). Some v.number) c.slot.view_is
    ∙ sym (leaving_here c.args.inside c.args.slots.now c.loop-slot.slot-index c.slot-item.result
    c.loop-slot-test.true c.slot-item.is (sym c.leaves.ensures ∙ c.if-leaves.true))
    ∙ sym c.loop-slot.invariant

pub loop-slot-preserved : goal.loop-slot-preserved
loop-slot-preserved c =
    c.loop-slot.invariant ∙ leaving_later c.args.inside c.args.slots.now c.loop-slot.slot-index c.slot-item.result c.loop-slot-test.true c.slot-item.is (sym c.leaves.ensures ∙ c.if-leaves.false)

pub returns : goal.returns
returns c = sym (c.loop-slot.invariant ∙ leaving_end c.args.inside c.args.slots.now c.loop-slot.slot-index c.loop-slot-test.false)
