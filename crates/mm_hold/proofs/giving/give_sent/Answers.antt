use Rattle.std.proofs.Common.{◌+◌, take, get_or, subst, sym}
use Rattle.std.proofs.lemmas.List.{take_all, take_more}
use Rattle.mm_hold.specs.Marks.{SlotMeets}
use Rattle.mm_hold.specs.Marks.{Adds, Handed}
use Rattle.mm_hold.proofs.Meeting.{handed_none, handed_more}
use Rattle.mm_hold.proofs.giving.give_sent.Goals as goal

pub loop-one-init : goal.loop-one-init
loop-one-init c = handed_none (SlotMeets c.args.meets.now) c.args.marks.now

pub loop-one-preserved : goal.loop-one-preserved
loop-one-preserved c =
    let l = c.loop-one in
    let xs = c.args.sent.now in
    let n = l.one-index in
    let e = get_or xs n (0, 0) in
    subst (λ b. Adds (Handed (take (n + 1) xs) (SlotMeets c.args.meets.now)) c.args.marks.now c.give-given.new.self b) (sym c.either-changed.ensures)
    (handed_more (SlotMeets c.args.meets.now) (take n xs) (take (n + 1) xs) e.0 e.1 c.slot_meets.result c.args.marks.now l.marks c.give-given.new.self c.give-given.result l.changed
    (take_more xs n (0, 0) c.loop-one-test.true) c.slot_meets.ensures l.invariant c.give-given.ensures)

pub returns : goal.returns
returns c =
    let l = c.loop-one in
    subst (λ xs. Adds (Handed xs (SlotMeets c.args.meets.now)) c.args.marks.now l.marks l.changed) (take_all l.one-index c.args.sent.now c.loop-one-test.false) l.invariant
