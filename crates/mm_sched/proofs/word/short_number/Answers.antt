use Rattle.std.proofs.Common.{arith}
use Rattle.mm_sched.proofs.Numbers.{one_digit, two_digits}
use Rattle.mm_sched.proofs.word.short_number.Goals as goal

pub returns-in-len1 : goal.returns-in-len1
returns-in-len1 c =
    (one_digit c.args.word.now (omega arith) c.if-is_ascii_digit.ensures.cases, omega (arith, c.if-is_ascii_digit.ensures.cases))

pub returns-in-len2 : goal.returns-in-len2
returns-in-len2 c =
    let first = c.if-is_ascii_digit-2.ensures.cases in
    let second = c.if-is_ascii_digit-3.ensures.cases in
    (two_digits c.args.word.now (omega arith) first second (grind arith), omega (arith, first, second))
