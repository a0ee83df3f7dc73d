use Rattle.std.proofs.Common.{ap}
use Rattle.mm_model.specs.Slot.{Slot}
use Rattle.mm_hold.proofs.{Groups.{group_more, group_skip}, PartySets.{mask_as, test_as}}
use Rattle.mm_hold.proofs.reached.with_group.Goals as goal

pub returns-then-has : goal.returns-then-has
returns-then-has c =
    let slot = c.args.slot.now in
    let group = ap (λ (s : Slot). s.group) c.slot.view_is in
    let number = ap (λ (s : Slot). s.number) c.slot.view_is in
    group_more c.args.groups c.mask_of.result c.args.mask slot (mask_as c.mask_of.result c.slot.inside.group slot.group group c.mask_of.ensures)
    ((test_as c.has.result c.args.mask c.slot.inside.number slot.number number c.has.ensures).0 c.if-has.true)

pub returns-else-has : goal.returns-else-has
returns-else-has c =
    let slot = c.args.slot.now in
    let number = ap (λ (s : Slot). s.number) c.slot.view_is in
    group_skip c.args.groups c.args.mask slot
    (λ h. let yes = (test_as c.has.result c.args.mask c.slot.inside.number slot.number number c.has.ensures).1 h in let none = c.if-has.false in absurd (cc))
