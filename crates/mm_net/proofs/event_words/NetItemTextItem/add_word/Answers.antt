use Rattle.std.proofs.Common.{◌+◌, ◌<◌, length, arith}
use Rattle.mm_model.specs.Schedule.{item_limit}
use Rattle.mm_net.proofs.EventWords.{too_many}
use Rattle.mm_net.proofs.event_words.NetItemTextItem.add_word.Goals as goal

pub returns-in-Some : goal.returns-in-Some
returns-in-Some c =
    let more : item_limit < length c.args.items.now.items + c.in-Some.count = omega arith in
    too_many c.args.word.now c.args.items.now.items c.in-Some.field-0-0 c.in-Some.count c.in-Some.ensures.some.0 c.in-Some.ensures.some.1 more
