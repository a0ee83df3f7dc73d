use Rattle.std.proofs.Common.{◌≡◌, ℕ, ◌<◌, length, slice_index}
use Rattle.mm_flow.specs.Edges.{node_at}
use Rattle.mm_graph.specs.Nodes.{IsNode}
use Rattle.mm_graph.proofs.nodes.nodes_of.Given as goal

abbrev pub invariant-loop-k : goal.invariant-loop-k
invariant-loop-k l = (length l.nodes.items ≡ l.k) × ((j : ℕ) → j < l.k → IsNode l.keys l.found (slice_index l.masks j) j (node_at l.nodes.items j))
