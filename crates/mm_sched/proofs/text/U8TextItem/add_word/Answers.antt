use Rattle.std.proofs.Common.{ℕ, ◌+◌, ◌≤◌, List, length, replicate, refl, sym, subst, arith}
use Rattle.std.proofs.lemmas.List.{length-append, length-replicate}
use Rattle.mm_model.{specs.Schedule.{item_limit, FitsLimit}, proofs.ScheduleWords.{says_copies, too_many}}
use Rattle.mm_sched.proofs.Numbers.{short_item}
use Rattle.mm_sched.proofs.text.U8TextItem.add_word.Goals as goal

pub returns-then-len-ge-ITEM_LIMIT : goal.returns-then-len-ge-ITEM_LIMIT
returns-then-len-ge-ITEM_LIMIT c =
    let read = c.in-Some.ensures in
    too_many c.args.word.now c.args.items.now.items c.in-Some.number 1 (short_item c.args.word.now c.in-Some.number read.0 read.1)
    (λ few. omega (arith, few, length-append c.args.items.now.items (replicate 1 c.in-Some.number), length-replicate 1 c.in-Some.number))

pub returns-in_default-item : goal.returns-in_default-item
returns-in_default-item c said says few = c.in_default-item.ensures.none refl says.number says.count says.item

pub returns-then-count-len : goal.returns-then-count-len
returns-then-count-len c =
    let copies : List ℕ = replicate c.in-Some-item.count c.in-Some-item.number in
    too_many c.args.word.now c.args.items.now.items c.in-Some-item.number c.in-Some-item.count c.in-Some-item.ensures.some
    (λ few. omega (arith, few, length-append c.args.items.now.items copies, length-replicate c.in-Some-item.count c.in-Some-item.number))

pub returns : goal.returns
returns c =
    let copies : List ℕ = replicate c.in-Some-item.count c.in-Some-item.number in
    let few : length c.args.items.now.items + c.in-Some-item.count ≤ item_limit = omega arith in (
      copies,
      says_copies c.args.word.now c.in-Some-item.number c.in-Some-item.count c.in-Some-item.ensures.some,
      c.in_ok-append.ensures,
      subst FitsLimit (sym c.in_ok-append.ensures) (omega (arith, few, length-append c.args.items.now.items copies, length-replicate c.in-Some-item.count c.in-Some-item.number)),
    )
