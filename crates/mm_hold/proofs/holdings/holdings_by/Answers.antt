use Rattle.std.proofs.Common.{subst}
use Rattle.mm_hold.specs.Marks.{HasSize}
use Rattle.mm_hold.proofs.holdings.holdings_by.Goals as goal

pub holdings_in-requires-clause-exact : goal.holdings_in-requires-clause-exact
holdings_in-requires-clause-exact c =
    let shape = c.in_ok-graph.ensures.shape in
    record {
      rising = shape.rising;
      all = shape.keys;
      size = subst (HasSize _) shape.parents c.in_ok-until_still.ensures.size;
      nodes_len = shape.nodes;
      loads = shape.loads;
      stores = shape.stores;
      sound = c.in_ok-until_still.ensures.sound;
      closed = c.in_ok-until_still.ensures.closed;
    }
