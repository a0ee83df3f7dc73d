use Rattle.std.proofs.Common.{length, ap, arith}
use Rattle.mm_endless.proofs.{Rows.rows_len}
use Rattle.mm_config.proofs.rows.Rows.get.Goals as goal

pub row-requires-clause-at : goal.row-requires-clause-at
row-requires-clause-at c =
    let same = ap length c.self.view_is in
    let long = rows_len c.self.inside.numbers.items 0 c.self.inside.ends.items in
    let ends = ap length c.deref-2.ensures.value in
    omega (arith, same, long, ends, c.requires)
