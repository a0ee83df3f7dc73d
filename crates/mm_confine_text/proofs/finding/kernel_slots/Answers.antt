use Rattle.std.{proofs.{Common.{[], ap, ◌∙◌}, lemmas.List.take_all}, specs.List.flat_map}
use Rattle.mm_confine_text.proofs.Listing.{part_more}
use Rattle.mm_confine_text.specs.Found.{slot_if}
use Rattle.mm_confine_text.proofs.finding.kernel_slots.Goals as goal

pub loop-slot-preserved : goal.loop-slot-preserved
loop-slot-preserved c =
    let slots = c.args.slots.now in
    part_more (slot_if c.args.kept.now c.args.group) slots c.loop-slot.slot-index c.slot-item.result c.loop-slot-test.true c.slot-item.is [] c.loop-slot.numbers.items c.put_slot.new.numbers.items
    c.loop-slot.invariant c.in_ok-put_slot.ensures

pub returns : goal.returns
returns c =
    let slots = c.args.slots.now in
    c.loop-slot.invariant ∙ ap (flat_map (slot_if c.args.kept.now c.args.group)) (take_all c.loop-slot.slot-index slots c.loop-slot-test.false)
