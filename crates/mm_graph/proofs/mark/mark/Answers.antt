use Rattle.mm_graph.proofs.Marking.{one_mark}
use Rattle.mm_graph.proofs.mark.mark.Goals as goal

pub returns-in-Some : goal.returns-in-Some
returns-in-Some c = one_mark c.args.keys.now c.args.seed c.args.marks.now c.in-Some.k c.requires.rising c.requires.len c.in-Some.ensures.0 c.in-Some.ensures.1 c.if-seed-ge64.false
