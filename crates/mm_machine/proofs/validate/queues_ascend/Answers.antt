use Rattle.std.proofs.Common.{ℕ, arith}
use Rattle.mm_model.specs.declared.event.Event.{Event}
use Rattle.mm_machine.proofs.Rising.{falls_not_more, falls}
use Rattle.mm_machine.proofs.validate.queues_ascend.Goals as goal

pub loop-k-preserved : goal.loop-k-preserved
loop-k-preserved c =
    falls_not_more (λ (x : ℕ × Event). x.0) c.args.events.now c.loop-k.k c.index-events-k.result
    c.index-events-k-in-loop-k.result c.loop-k.auto.k c.loop-k-test.true c.index-events-k.is
    c.index-events-k-in-loop-k.is c.loop-k.invariant
    (omega (arith, c.if-event-before.false))

pub returns-then-event-before : goal.returns-then-event-before
returns-then-event-before c = (
  λ f. absurd cc,
  λ rising. absurd (falls (λ (x : ℕ × Event). x.0) c.args.events.now c.loop-k.k c.index-events-k.result
      c.index-events-k-in-loop-k.result c.loop-k.auto.k c.loop-k-test.true c.index-events-k.is
      c.index-events-k-in-loop-k.is
      (omega (arith, c.if-event-before.true)) rising),
)
