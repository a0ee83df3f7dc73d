use Rattle.std.proofs.Common.{◌≤◌, length, arith}
use Rattle.mm_keep.proofs.Events.{event_past}
use Rattle.mm_keep.proofs.again.with_words.Goals as goal

pub returns-else-at-count : goal.returns-else-at-count
returns-else-at-count c =
    let past : length c.args.t.now.forms ≤ c.args.reg = (let le = c.if-at-count.false in let n = c.registers-count.ensures.count in let r = c.from-at.ensures in omega (arith, le, n, r)) in
    event_past c.args.t.now c.args.reg c.args.words.now.ip c.args.words.now.address c.args.words.now.value past
