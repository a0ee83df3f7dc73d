use Rattle.std.proofs.Common.{sym, nat_eq, arith}
use lib.Pointwise.{pointwise}
use Rattle.mm_explore.proofs.Tallies.{found_small}
use Rattle.mm_explore.proofs.ends.count_end.Goals as goal

pub overflow_add-tally : goal.overflow_add-tally
overflow_add-tally c =
    let small = found_small (λ k. pointwise nat_eq c.args.key.items k.items) c.args.ends.now.entries c.in-Some.tally.now c.requires.room (sym c.in-Some.ensures.value) in
    omega (arith, small)
