use Rattle.mm_graph.proofs.GroupLinks.{both_ways}
use Rattle.mm_graph.proofs.links.link.Goals as goal

pub returns-then-h-lt64 : goal.returns-then-h-lt64
returns-then-h-lt64 c = both_ways c.args.links.now c.args.g c.args.h c.requires c.if-g-lt64.true c.if-h-lt64.true
