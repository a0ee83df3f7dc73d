use Rattle.std.proofs.Common.{ap, ◌∙◌}
use Rattle.mm_model.specs.Slot.{Slot}
use Rattle.mm_machine.proofs.Collecting.{events_more}
use Rattle.mm_machine.proofs.capture.events_of.Goals as goal

pub loop-i-preserved : goal.loop-i-preserved
loop-i-preserved c =
    c.in_ok-put_queue.ensures
    ∙ events_more c.args.core.now c.loop-i.i c.nth-slot.result.now c.slot.inside.number c.loop-i.events.items
    c.queue.result.now c.nth-slot.ensures (ap (λ (s : Slot). s.number) c.slot.view_is) c.loop-i.invariant
    c.queue.ensures
