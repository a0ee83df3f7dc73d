use Rattle.std.proofs.Common.{refl, ap, subst}
use Rattle.mm_model.specs.Slot.{Slot}
use Rattle.mm_hold.specs.Parties.{Is, ServedParty}
use Rattle.mm_hold.proofs.PartySets.{by_kernel, mask_as, test_as}
use Rattle.mm_hold.proofs.sharing.share_kernel.Goals as goal

pub returns : goal.returns
returns c =
    let i = c.args.kernel.now.image in
    let kept = c.args.kernel.now.kept in
    let k = c.args.conduct.now in
    let s = c.args.slot.now in
    let number = ap (λ (t : Slot). t.number) c.slot.view_is in
    let set = c.served_by-served.result in
    by_kernel i kept k s c.mask_of.result c.mask_of-2.result (record { groups = 0; slots = c.mask_of.result }) set c.those_if.result c.those_if-2.result c.those_if-3.result
    c.has.result c.has-2.result c.has-3.result c.args.sharing.now c.share.new.self c.share-2.new.self c.share-3.new.self
    (mask_as c.mask_of.result c.slot.inside.number s.number number c.mask_of.ensures)
    (mask_as c.mask_of-2.result c.slot.inside.group s.group (ap (λ (t : Slot). t.group) c.slot.view_is) c.mask_of-2.ensures) refl
    (subst (λ v. Is set (ServedParty i kept i.slots v)) number c.served_by-served.ensures)
    (test_as c.has.result k.freed c.slot.inside.number s.number number c.has.ensures) c.those_if.ensures
    (test_as c.has-2.result k.givers c.slot.inside.number s.number number c.has-2.ensures) c.those_if-2.ensures
    (test_as c.has-3.result k.seeing c.slot.inside.number s.number number c.has-3.ensures) c.those_if-3.ensures
    c.share.ensures c.share-2.ensures c.share-3.ensures
