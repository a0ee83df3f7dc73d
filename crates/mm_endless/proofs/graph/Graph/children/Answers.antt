use Rattle.std.proofs.Common.{length, ap, arith}
use Rattle.mm_endless.proofs.{Rows.rows_len}
use Rattle.mm_endless.proofs.graph.Graph.children.Goals as goal

pub row-requires-clause-number : goal.row-requires-clause-number
row-requires-clause-number c =
    let same = ap length c.self.view_is in
    let long = rows_len c.self.inside.children.items 0 c.self.inside.ends.items in
    let ends = ap length c.deref-2.ensures.value in
    omega (arith, same, long, ends, c.requires)
