use Rattle.mm_graph.proofs.Marking.{marks_more}
use Rattle.mm_graph.proofs.mark.mark_all.Goals as goal

pub loop-k-preserved : goal.loop-k-preserved
loop-k-preserved c = marks_more c.args.keys.now c.args.seeds.now c.loop-k.k _ c.loop-k.marks _ c.loop-k-test.true c.loop-k.invariant c.mark.ensures
