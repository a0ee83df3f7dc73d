use Rattle.std.{proofs.{Common.{[], ap, ◌∙◌}, lemmas.List.take_all}, specs.List.flat_map}
use Rattle.mm_audit.{specs.Serving.served_by, proofs.Servers.part_more}
use Rattle.mm_audit.proofs.handlers.served_in.Goals as goal

pub loop-s-preserved : goal.loop-s-preserved
loop-s-preserved c =
    let slots = c.args.slots.now in
    part_more (λ s. flat_map (served_by s) slots) slots c.loop-s.s-index c.s-item.result c.loop-s-test.true c.s-item.is [] c.loop-s.served.items c.add_slot.new.served.items
    c.loop-s.invariant c.in_ok-add_slot.ensures

pub returns : goal.returns
returns c =
    let slots = c.args.slots.now in
    c.loop-s.invariant ∙ ap (flat_map (λ s. flat_map (served_by s) slots)) (take_all c.loop-s.s-index slots c.loop-s-test.false)
