use Rattle.std.proofs.Common.{◌≡◌, ◌++◌, ◌∙◌, ap, take}
use Rattle.std.{proofs.lemmas.List.take_all, specs.List.flat_map}
use Rattle.mm_model.specs.Image.{Image}
use Rattle.mm_keep_text.{specs.Used.slot_origins, proofs.Telling.slots_are}
use Rattle.mm_keep_text.proofs.finding.put_slots.Goals as goal

pub returns : goal.returns
returns c =
    let kept = c.args.kernel.now.kept in
    let slots = c.slots-slots.result.now in
    let all : take c.loop-slot.slot-index slots ≡ slots = take_all c.loop-slot.slot-index slots c.loop-slot-test.false in
    let is : slots ≡ c.args.kernel.now.image.slots = c.slots-slots.ensures.slots ∙ ap (λ (i : Image). i.slots) c.image.ensures in
    c.loop-slot.invariant
    ∙ ap (λ l. c.args.origins.now.items ++ l) (ap (flat_map (slot_origins kept)) (all ∙ is) ∙ slots_are kept c.args.kernel.now.image.slots)
