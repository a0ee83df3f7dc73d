use Rattle.std.{proofs.{Common.{◌++◌, ap, ◌∙◌}, lemmas.List.take_all}, specs.List.flat_map}
use Rattle.mm_audit.{specs.Serving.served_by, proofs.Servers.part_more}
use Rattle.mm_audit.proofs.handlers.add_slot.Goals as goal

pub loop-t-preserved : goal.loop-t-preserved
loop-t-preserved c =
    part_more (served_by c.args.s.now) c.args.slots.now c.loop-t.t-index c.t-item.result c.loop-t-test.true c.t-item.is c.args.served.now.items c.loop-t.served.items
    c.add_server.new.served.items c.loop-t.invariant c.in_ok-add_server.ensures

pub returns : goal.returns
returns c =
    c.loop-t.invariant
    ∙ ap (λ slots. c.args.served.now.items ++ flat_map (served_by c.args.s.now) slots) (take_all c.loop-t.t-index c.args.slots.now c.loop-t-test.false)
