use Rattle.mm_object.{specs.Objects.place_of, proofs.Adjacent.{keys_go_on, keys_fall}}
use Rattle.mm_object.proofs.relocs.in_order.Goals as goal

pub returns-then-place_of : goal.returns-then-place_of
returns-then-place_of c = (
  λ f. absurd cc,
  λ rising. keys_fall place_of c.args.relocs.now c.loop-k.k c.place_of-in-loop-k.result c.place_of.result _ _
      c.loop-k.auto.k c.loop-k-test.true c.place_of-in-loop-k.ensures.place c.place_of.ensures.place c.if-place_of.true
      rising,
)

pub loop-k-preserved : goal.loop-k-preserved
loop-k-preserved c = keys_go_on place_of c.args.relocs.now c.loop-k.k c.place_of-in-loop-k.result c.place_of.result _ _
    c.loop-k.auto.k c.loop-k-test.true c.place_of-in-loop-k.ensures.place c.place_of.ensures.place c.if-place_of.false
    c.loop-k.invariant
