use Rattle.std.proofs.{Common.{◌≡◌, [], length, refl, ap, arith}, lemmas.Bool.Decides.nat_tests}
use Rattle.mm_sched.proofs.Numbers.{begins_whole, begins_unique, whole_begins}
use Rattle.mm_sched.proofs.word.number.Goals as goal

pub returns-in_err-number-clause-none : goal.returns-in_err-number-clause-none
returns-in_err-number-clause-none c _ n le same = c.in_err-number.ensures.none refl n [] le (begins_whole c.args.digits.now n same)

pub returns-then-is_empty-clause-some : goal.returns-then-is_empty-clause-some
returns-then-is_empty-clause-some c =
    let read = c.in_ok-number.ensures.some in
    let none : length c.in_ok-number.rest.now ≡ 0 = grind (arith, nat_tests) in
    (whole_begins c.args.digits.now c.in_ok-number.rest.now c.in_ok-number.number read.0 none, read.1)

pub returns-else-is_empty-clause-none : goal.returns-else-is_empty-clause-none
returns-else-is_empty-clause-none c _ n le same =
    let read = c.in_ok-number.ensures.some in
    let one = begins_unique c.args.digits.now c.in_ok-number.rest.now [] c.in_ok-number.number n (omega (arith, read.1)) (omega arith) read.0 (begins_whole c.args.digits.now n same) in
    let none : length c.in_ok-number.rest.now ≡ 0 = ap length one.1 in
    grind (arith, nat_tests)
