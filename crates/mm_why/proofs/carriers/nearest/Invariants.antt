use Rattle.std.proofs.Common.{◌≡◌, length}
use Rattle.mm_flow.specs.Edges.{right_at}
use Rattle.mm_why.specs.Carrying.{AreNearest}
use Rattle.mm_why.proofs.carriers.nearest.Given as goal

abbrev pub invariant-loop-k : goal.invariant-loop-k
invariant-loop-k l = (length l.above.items ≡ l.k) × AreNearest l.graph.parents.items l.places (right_at l.graph.nodes.items l.right) l.above.items
