use Rattle.std.proofs.Common.{refl}
use Rattle.mm_object.{specs.declared.thread.Thread.Thread, proofs.Adjacent.{keys_go_on, keys_fall}}
use Rattle.mm_object.proofs.threads.slots_ascend.Goals as goal

pub returns-then-threads-k : goal.returns-then-threads-k
returns-then-threads-k c = (
  λ f. absurd cc,
  λ rising. keys_fall (λ (t : Thread). t.slot) c.args.threads.now c.loop-k.k _ _ _ _ c.loop-k.auto.k c.loop-k-test.true refl refl c.if-threads-k.true rising,
)

pub loop-k-preserved : goal.loop-k-preserved
loop-k-preserved c = keys_go_on (λ (t : Thread). t.slot) c.args.threads.now c.loop-k.k _ _ _ _ c.loop-k.auto.k c.loop-k-test.true refl refl c.if-threads-k.false c.loop-k.invariant
