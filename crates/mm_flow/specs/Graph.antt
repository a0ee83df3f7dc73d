-- The edges of the code's graph.
use Rattle.mm_flow.specs.{declared.graph.Graph.Graph, Edges.Edges}

abbrev pub edges_of : Graph → Edges
edges_of g = record { nodes = g.nodes.now; targets = g.targets.now }
