use Rattle.std.proofs.Common.{sym, ap, arith}
use Rattle.mm_model.specs.Slot.{Slot}
use Rattle.mm_image.proofs.Ascending.{slots_go_on, slots_fall}
use Rattle.mm_image.proofs.fits.slots_ascend.Goals as goal

pub loop-k-preserved : goal.loop-k-preserved
loop-k-preserved c =
    let before = ap (λ (s : Slot). s.number) c.before-in-loop-k.view_is in
    let this = ap (λ (s : Slot). s.number) c.slot.view_is in
    slots_go_on c.args.slots.now c.loop-k.k c.index-slots-k.result c.index-slots-k-in-loop-k.result c.loop-k.auto.k
    c.loop-k-test.true c.index-slots-k.is c.index-slots-k-in-loop-k.is c.loop-k.invariant
    (omega (arith, before, this, c.if-slot-before.false))

pub returns-then-slot-before : goal.returns-then-slot-before
returns-then-slot-before c =
    let before = ap (λ (s : Slot). s.number) c.before-in-loop-k.view_is in
    let this = ap (λ (s : Slot). s.number) c.slot.view_is in (
      λ f. absurd cc,
      λ rising. sym (slots_fall c.args.slots.now c.loop-k.k c.index-slots-k.result c.index-slots-k-in-loop-k.result c.loop-k.auto.k c.loop-k-test.true c.index-slots-k.is c.index-slots-k-in-loop-k.is
          (omega (arith, before, this, c.if-slot-before.true)) rising),
    )
