use Rattle.std.proofs.Common.{◌≡◌, ◌↔◌, ℕ, ◌+◌, take, subst}
use Rattle.std.proofs.lemmas.List.{take_all}
use Rattle.std.specs.Int.{bit_at}
use Rattle.mm_hold.specs.Holdings.{GroupOf}
use Rattle.mm_hold.proofs.{Groups.{groups_none, groups_more}, Sets.take_item}
use Rattle.mm_hold.proofs.reached.groups_of.Goals as goal

pub loop-slot-init : goal.loop-slot-init
loop-slot-init c = groups_none c.args.mask

pub loop-slot-preserved : goal.loop-slot-preserved
loop-slot-preserved c =
    let l = c.loop-slot in
    let xs = c.args.slots.now in
    groups_more (take l.slot-index xs) (take (l.slot-index + 1) xs) c.slot-item.result c.args.mask l.groups c.with_group-groups.result
    (take_item xs l.slot-index c.slot-item.result c.loop-slot-test.true c.slot-item.is) l.invariant c.with_group-groups.ensures

pub returns : goal.returns
returns c =
    let xs = c.args.slots.now in
    subst (λ l. (g : ℕ) → (bit_at c.loop-slot.groups g ≡ 1) ↔ GroupOf l c.args.mask g) (take_all c.loop-slot.slot-index xs c.loop-slot-test.false) c.loop-slot.invariant
