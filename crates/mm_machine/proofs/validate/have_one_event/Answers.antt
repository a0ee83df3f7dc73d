use Rattle.mm_machine.{specs.Snapshot.HasOneEvent, proofs.Rising.{all_at, all_more}}
use Rattle.mm_machine.proofs.validate.have_one_event.Goals as goal

pub loop-slot-preserved : goal.loop-slot-preserved
loop-slot-preserved c =
    let l = c.loop-slot in
    all_more (HasOneEvent c.args.events.now) c.args.slots.now l.slot-index c.slot-item.result l.invariant c.loop-slot-test.true c.slot-item.is (c.has_one_event.ensures.0 c.if-not-has_one_event.false)

pub returns-then-not-has_one_event : goal.returns-then-not-has_one_event
returns-then-not-has_one_event c = (
  λ f. absurd cc,
  λ h.
      let one = c.has_one_event.ensures.1 (all_at (HasOneEvent c.args.events.now) c.args.slots.now c.loop-slot.slot-index c.slot-item.result h c.loop-slot-test.true c.slot-item.is) in
      let not_one = c.if-not-has_one_event.true in
      absurd cc,
)
