use Rattle.mm_graph.proofs.Places.{placed_all}
use Rattle.mm_graph.proofs.placed.in_order.Goals as goal

pub returns : goal.returns
returns c = placed_all c.args.keys.now _ _ c.in_ok-placed.ensures c.sort.ensures.permutation
