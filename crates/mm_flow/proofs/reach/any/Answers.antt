use Rattle.std.proofs.Common.{arith}
use Rattle.mm_flow.{specs.Edges.right_at, proofs.Kept.{none_before, one_more, all_before}}
use Rattle.mm_flow.proofs.reach.any.Goals as goal

pub loop-k-init : goal.loop-k-init
loop-k-init c g = none_before c.args.marks.now (right_at c.args.nodes.now c.args.right) g

pub loop-k-preserved : goal.loop-k-preserved
loop-k-preserved c g = one_more c.loop-k.k c.loop-k.all c.mark_if-all.result g c.args.marks.now (right_at c.args.nodes.now c.args.right) c.mark_if-all.ensures (c.loop-k.invariant g)

pub returns : goal.returns
returns c g = all_before c.loop-k.k c.loop-k.all g c.args.marks.now (right_at c.args.nodes.now c.args.right) (omega arith) (c.loop-k.invariant g)
