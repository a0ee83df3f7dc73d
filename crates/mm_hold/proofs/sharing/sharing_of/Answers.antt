use Rattle.std.proofs.Common.{◌↔◌, ◌+◌, take, ap, ◌∙◌, subst}
use Rattle.std.proofs.lemmas.List.{take_all}
use Rattle.mm_model.specs.Image.{Image}
use Rattle.mm_confine.specs.declared.party.Party.{Party}
use Rattle.mm_hold.specs.Parties.{Shares, PassesAlways}
use Rattle.mm_hold.proofs.{PartySets.{always_none, always_more}, Sets.take_item}
use Rattle.mm_hold.proofs.sharing.sharing_of.Goals as goal

pub loop-slot-init : goal.loop-slot-init
loop-slot-init c = always_none c.args.kernel.now.image c.args.kernel.now.kept c.args.conduct.now c.none-sharing.result c.none-sharing.ensures

pub loop-slot-preserved : goal.loop-slot-preserved
loop-slot-preserved c =
    let l = c.loop-slot in
    let xs = c.slots-slots.result.now in
    always_more c.args.kernel.now.image c.args.kernel.now.kept c.args.conduct.now (take l.slot-index xs) (take (l.slot-index + 1) xs) c.slot-item.result l.sharing c.share_slot.new.sharing
    (take_item xs l.slot-index c.slot-item.result c.loop-slot-test.true c.slot-item.is) l.invariant c.share_slot.ensures

pub returns : goal.returns
returns c =
    let xs = c.slots-slots.result.now in
    let is = take_all c.loop-slot.slot-index xs c.loop-slot-test.false ∙ c.slots-slots.ensures.slots ∙ ap (λ (i : Image). i.slots) c.image.ensures in
    subst (λ l. (y x : Party) → Shares c.loop-slot.sharing y x ↔ PassesAlways c.args.kernel.now.image c.args.kernel.now.kept c.args.conduct.now l y x) is c.loop-slot.invariant
