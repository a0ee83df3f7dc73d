use Rattle.std.proofs.Common.{◌≡◌, arith}
use Rattle.mm_sched.proofs.Numbers.{count_read}
use Rattle.mm_sched.proofs.word.count_behind.Goals as goal

pub returns-in_default-number-clause-none : goal.returns-in_default-number-clause-none
returns-in_default-number-clause-none c _ count says =
    let read = c.in-Some.ensures.some in
    let same : c.in-Some.count ≡ count = count_read c.args.rest.now c.in-Some.count count c.in-42.len_at_least read.0 read.1 says in
    omega (arith, says.some)
