use Rattle.mm_graph.specs.Linking.{LinksOne}
use Rattle.mm_graph.proofs.links.link_slot.Given as goal

abbrev pub invariant-loop-k : goal.invariant-loop-k
invariant-loop-k l = LinksOne l.slots l.served l.k l.fn.links l.links
