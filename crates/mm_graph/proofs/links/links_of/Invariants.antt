use Rattle.mm_graph.proofs.GroupLinks.{LinksBefore}
use Rattle.mm_graph.proofs.links.links_of.Given as goal

abbrev pub invariant-loop-k : goal.invariant-loop-k
invariant-loop-k l = LinksBefore l.slots l.k l.links
