use Rattle.std.proofs.Common.{length, ap, arith}
use Rattle.mm_endless.proofs.{Ending.firsts_len}
use Rattle.mm_endless.proofs.closed.ClosedSets.first.Goals as goal

pub first_at-requires-clause-node : goal.first_at-requires-clause-node
first_at-requires-clause-node c =
    let same = ap length c.self.view_is in
    let long = firsts_len c.self.inside.marks.items c.self.inside.numbers.items c.self.invariant in
    let marks = ap length c.deref.ensures.value in
    omega (arith, same, long, marks, c.requires)
