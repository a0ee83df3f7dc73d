use Rattle.std.proofs.Common.{refl}
use Rattle.mm_sched.proofs.Numbers.{begins_item, item_begun, says}
use Rattle.mm_sched.proofs.word.item.Goals as goal

pub returns-in_err-name-clause-none : goal.returns-in_err-name-clause-none
returns-in_err-name-clause-none c _ n count item =
    let f = begins_item c.args.word.now n count item in
    c.in_err-name.ensures.none refl n f.0 item.number_limit f.1

pub returns-in_err-count-clause-none : goal.returns-in_err-count-clause-none
returns-in_err-count-clause-none c _ n count item =
    let read = c.in_ok-name.ensures.some in
    c.in_err-count.ensures.none refl count (says c.args.word.now c.in_ok-name.rest.now c.in_ok-name.name n count read.1 read.0 item).1

pub returns-clause-some : goal.returns-clause-some
returns-clause-some c =
    let read = c.in_ok-name.ensures.some in
    item_begun c.args.word.now c.in_ok-name.rest.now c.in_ok-name.name c.in_ok-count.count read.1 read.0 c.in_ok-count.ensures.some
