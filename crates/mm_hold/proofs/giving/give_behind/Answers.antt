use Rattle.std.proofs.Common.{◌+◌, take, get_or, slice_index, ap, ◌∙◌, subst, sym}
use Rattle.std.proofs.lemmas.List.{take_all, take_more}
use Rattle.mm_hold.specs.Marks.{Gives, GivesBehind}
use Rattle.mm_hold.proofs.Meeting.{behind_none, behind_more, sets_same}
use Rattle.mm_hold.specs.declared.parties.Parties.{Parties}
use Rattle.mm_hold.proofs.giving.give_behind.Goals as goal

pub loop-one-init : goal.loop-one-init
loop-one-init c = behind_none c.args.marks.now

pub loop-one-preserved : goal.loop-one-preserved
loop-one-preserved c =
    let l = c.loop-one in
    let xs = c.args.behind.now in
    let n = l.one-index in
    let e = get_or xs n (0, 0) in
    subst (λ b. GivesBehind (take (n + 1) xs) c.args.marks.now c.give-given.new.self b) (sym c.either-changed.ensures)
    (behind_more (take n xs) (take (n + 1) xs) e.0 e.1 c.args.marks.now l.marks c.give-given.new.self c.give-given.result l.changed
    (take_more xs n (0, 0) c.loop-one-test.true) l.invariant
    (subst (λ (p : Parties). Gives e.1 p l.marks c.give-given.new.self c.give-given.result)
    (sets_same c.groups_alone-groups.result (record { groups = slice_index l.marks.groups.items e.0; slots = 0 })
    (c.groups_alone-groups.ensures.groups ∙ ap (λ (p : Parties). p.groups) c.at.ensures) c.groups_alone-groups.ensures.slots) c.give-given.ensures))

pub returns : goal.returns
returns c =
    let l = c.loop-one in
    subst (λ xs. GivesBehind xs c.args.marks.now l.marks l.changed) (take_all l.one-index c.args.behind.now c.loop-one-test.false) l.invariant
