use Rattle.std.proofs.Common.{sym, subst}
use Rattle.mm_graph.{specs.Nodes.IsAscending, proofs.Cells.ascending}
use Rattle.mm_graph.proofs.graph.nodes_in.Goals as goal

pub nodes_of-requires-clause-found : goal.nodes_of-requires-clause-found
nodes_of-requires-clause-found c = subst IsAscending (sym c.requires.found) (ascending c.args.img.now.memory c.requires.image.paged)
