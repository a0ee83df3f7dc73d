use Rattle.std.proofs.Common.{arith}
use Rattle.mm_flow.proofs.Kept.{none_before, one_more, all_before}
use Rattle.mm_graph.specs.Marked.{node_pointer}
use Rattle.mm_why.specs.Owning.{can_use}
use Rattle.mm_why.proofs.uses.givers.Goals as goal

pub loop-k-init : goal.loop-k-init
loop-k-init c g = none_before c.args.marks.now (λ k. can_use c.args.how (node_pointer c.args.graph.now.keys.items k) c.args.word) g

pub loop-k-preserved : goal.loop-k-preserved
loop-k-preserved c g =
    one_more c.loop-k.k c.loop-k.all c.given_mark-all.result g c.args.marks.now (λ k. can_use c.args.how (node_pointer c.args.graph.now.keys.items k) c.args.word)
    c.given_mark-all.ensures (c.loop-k.invariant g)

pub returns : goal.returns
returns c g = all_before c.loop-k.k c.loop-k.all g c.args.marks.now (λ k. can_use c.args.how (node_pointer c.args.graph.now.keys.items k) c.args.word) (omega arith) (c.loop-k.invariant g)
