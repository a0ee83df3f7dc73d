use Rattle.std.proofs.Common.{ap, subst}
use Rattle.mm_model.specs.Slot.{Slot}
use Rattle.mm_hold.specs.Parties.{Is, ServedParty}
use Rattle.mm_hold.proofs.PartySets.{by_caller, mask_as}
use Rattle.mm_hold.proofs.sharing.share_served.Goals as goal

pub returns : goal.returns
returns c =
    let i = c.args.kernel.now.image in
    let kept = c.args.kernel.now.kept in
    let s = c.args.handler.now in
    let m = c.mask_of.result in
    let set = c.served_by.result in
    by_caller i kept s m set c.groups_alone-others.result c.args.sharing.now c.share.new.self c.share-2.new.self
    (mask_as m c.handler.inside.group s.group (ap (λ (t : Slot). t.group) c.handler.view_is) c.mask_of.ensures) c.groups_alone-others.ensures.groups c.groups_alone-others.ensures.slots
    (subst (λ v. Is set (ServedParty i kept i.slots v)) (ap (λ (t : Slot). t.number) c.handler.view_is) c.served_by.ensures) c.share.ensures c.share-2.ensures
