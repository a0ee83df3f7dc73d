use Rattle.std.proofs.Common.{◌+◌, ◌*◌, ◌^◌, length}
use Rattle.mm_flow.specs.{Flow.room, Work.Flowing, Graph.edges_of}
use Rattle.mm_flow.proofs.flow.flow.Given as goal

abbrev pub invariant-loop-k : goal.invariant-loop-k
invariant-loop-k l = Flowing (edges_of l.graph) l.fn.marks l.marks l.work.propagated.items l.work.pending.items

abbrev pub decreases-loop-k : goal.decreases-loop-k
decreases-loop-k l = 2 * room (2 ^ 64) l.marks + length l.work.pending.items
