use Rattle.std.proofs.Common.{◌+◌, take, ap, ◌∙◌, subst}
use Rattle.std.proofs.lemmas.List.{take_all}
use Rattle.mm_model.specs.Image.{Image}
use Rattle.mm_hold.specs.Parties.{Is, ServedParty}
use Rattle.mm_hold.proofs.{PartySets.{served_none, served_more}, Sets.take_item}
use Rattle.mm_hold.proofs.sharing.served_by.Goals as goal

pub loop-slot-init : goal.loop-slot-init
loop-slot-init c = served_none c.args.kernel.now.image c.args.kernel.now.kept c.none-parties.result c.args.number c.none-parties.ensures

pub loop-slot-preserved : goal.loop-slot-preserved
loop-slot-preserved c =
    let l = c.loop-slot in
    let xs = c.slots-slots.result.now in
    served_more c.args.kernel.now.image c.args.kernel.now.kept (take l.slot-index xs) (take (l.slot-index + 1) xs) c.slot-item.result c.args.number l.parties c.parties_if_served.result c.and-parties.result
    (take_item xs l.slot-index c.slot-item.result c.loop-slot-test.true c.slot-item.is) l.invariant c.parties_if_served.ensures c.and-parties.ensures

pub returns : goal.returns
returns c =
    let xs = c.slots-slots.result.now in
    let is = take_all c.loop-slot.slot-index xs c.loop-slot-test.false ∙ c.slots-slots.ensures.slots ∙ ap (λ (i : Image). i.slots) c.image.ensures in
    subst (λ l. Is c.loop-slot.parties (ServedParty c.args.kernel.now.image c.args.kernel.now.kept l c.args.number)) is c.loop-slot.invariant
