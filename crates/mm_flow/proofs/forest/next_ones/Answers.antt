use Rattle.std.proofs.Common.{arith}
use Rattle.mm_flow.proofs.Aheads.{nexts_more, nexts_ahead}
use Rattle.mm_flow.proofs.forest.next_ones.Goals as goal

pub loop-k-preserved : goal.loop-k-preserved
loop-k-preserved c = rw c.in_ok-push.ensures.items (nexts_more c.loop-k.next.items c.loop-k.k c.loop-k.invariant.0 c.loop-k.invariant.1)

pub returns : goal.returns
returns c = nexts_ahead c.loop-k.next.items c.loop-k.k c.args.n (omega arith) c.loop-k.invariant.0 c.loop-k.invariant.1
