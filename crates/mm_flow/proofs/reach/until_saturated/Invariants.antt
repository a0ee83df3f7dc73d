use Rattle.std.proofs.Common.{◌^◌}
use Rattle.mm_flow.specs.{Flow.room, Work.IsReady, Graph.edges_of, Reached.Saturating}
use Rattle.mm_flow.proofs.reach.until_saturated.Given as goal

abbrev pub invariant-loop-sharing : goal.invariant-loop-sharing
invariant-loop-sharing l = Saturating (edges_of l.graph)
    (record { nodes = l.graph.nodes.now; parents = l.parents; links = l.links }) l.fn.marks l.marks
    × IsReady (edges_of l.graph) l.marks l.work.propagated.items

abbrev pub decreases-loop-sharing : goal.decreases-loop-sharing
decreases-loop-sharing l = room (2 ^ 64) l.marks
