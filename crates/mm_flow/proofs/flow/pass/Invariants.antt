use Rattle.std.proofs.Common.{◌-◌}
use Rattle.mm_flow.specs.{Work.{Walking, pass_of, way_of, worklist_of}, Graph.edges_of}
use Rattle.mm_flow.proofs.flow.pass.Given as goal

abbrev pub invariant-loop-walk : goal.invariant-loop-walk
invariant-loop-walk l = Walking
    (pass_of (edges_of l.graph) l.k l.mask)
    (worklist_of l.fn.marks l.fn.work)
    (way_of l.walk.at l.walk.done (worklist_of l.marks l.work))

abbrev pub decreases-loop-walk : goal.decreases-loop-walk
decreases-loop-walk l = l.end - l.walk.at
