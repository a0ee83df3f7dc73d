use Rattle.std.proofs.Common.{length, ap, arith}
use Rattle.mm_endless.proofs.{Rows.rows_len}
use Rattle.mm_config.proofs.rows.Rows.len.Goals as goal

pub returns : goal.returns
returns c =
    let same = ap length c.self.view_is in
    let long = rows_len c.self.inside.numbers.items 0 c.self.inside.ends.items in
    let count = c.len.ensures in
    omega (arith, same, long, count)
