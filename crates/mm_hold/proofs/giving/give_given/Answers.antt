use Rattle.std.proofs.Common.{◌+◌, take, get_or, subst, sym}
use Rattle.std.proofs.lemmas.List.{take_all, take_more}
use Rattle.mm_hold.specs.Parties.{ServedParty}
use Rattle.mm_hold.specs.Marks.{Adds, Handed}
use Rattle.mm_hold.proofs.Meeting.{handed_none, handed_more}
use Rattle.mm_hold.proofs.giving.give_given.Goals as goal

pub loop-one-init : goal.loop-one-init
loop-one-init c = handed_none (ServedParty c.args.kernel.now.image c.args.kernel.now.kept c.args.kernel.now.image.slots) c.args.marks.now

pub loop-one-preserved : goal.loop-one-preserved
loop-one-preserved c =
    let l = c.loop-one in
    let xs = c.args.given.now in
    let n = l.one-index in
    let e = get_or xs n (0, 0) in
    subst (λ b. Adds (Handed (take (n + 1) xs) (ServedParty c.args.kernel.now.image c.args.kernel.now.kept c.args.kernel.now.image.slots)) c.args.marks.now c.give-new.new.self b) (sym c.either-changed.ensures)
    (handed_more (ServedParty c.args.kernel.now.image c.args.kernel.now.kept c.args.kernel.now.image.slots) (take n xs) (take (n + 1) xs) e.0 e.1 c.served_by.result c.args.marks.now l.marks c.give-new.new.self c.give-new.result l.changed
    (take_more xs n (0, 0) c.loop-one-test.true) c.served_by.ensures l.invariant c.give-new.ensures)

pub returns : goal.returns
returns c =
    let l = c.loop-one in
    subst (λ xs. Adds (Handed xs (ServedParty c.args.kernel.now.image c.args.kernel.now.kept c.args.kernel.now.image.slots)) c.args.marks.now l.marks l.changed) (take_all l.one-index c.args.given.now c.loop-one-test.false) l.invariant
