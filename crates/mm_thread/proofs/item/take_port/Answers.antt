use Rattle.std.proofs.Common.{◌≡◌, ap, sym, ◌∙◌}
use Rattle.mm_model.specs.Slot.{Slot}
use Rattle.mm_thread.proofs.{Cores.registers_small, RowIndex.apart_in}
use Rattle.mm_thread.proofs.Items.{port_idles, port_delivers, arrival, step_of}
use Rattle.mm_thread.proofs.item.take_port.Goals.{in-Some-deliver, in-None}
use Rattle.mm_thread.proofs.item.take_port.Goals as goal

pub returns-in_default : goal.returns-in_default
returns-in_default g c =
    port_idles g.W.Watch.tells g.W.Watch.looks c.args.watch.now c.args.tables.now (g.M.Memory.meaning c.args.mem.now) c.args.item c.tell_step.new.watch c.in_default.ensures.none c.tell_step.ensures

pub deliver-requires-clause-registers : goal.deliver-requires-clause-registers
deliver-requires-clause-registers g c =
    let t = c.args.tables.now in
    registers_small t c.requires.whole c.in-Some.slot_index c.in-Some.ensures.within

pub returns : goal.returns
returns g c =
    let t = c.args.tables.now in
    let p = c.in-Some.slot_index in
    let number = ap (λ (x : Slot). x.number) (c.behind-tables.view_is ∙ c.slot.ensures) in
    let arrived : c.match-deliver.tick ≡ arrival c.deliver.result = elim c.match-deliver.branch [
      | in-Some-deliver w ↦ w.tick-is ∙ ap arrival (sym w.in-Some-deliver.is)
      | in-None w ↦ w.tick-is ∙ ap arrival (sym w.in-None.is)
    ] in
    port_delivers g.W.Watch.tells g.W.Watch.looks c.args.watch.now t (apart_in t c.requires.whole) p c.in-Some.ensures.within (g.M.Memory.meaning c.args.mem.now) c.args.item
    c.deliver.new.self c.look.new.self c.tell_step-2.new.watch c.match-deliver.tick
    c.in-Some.ensures.port c.deliver.ensures.slot (arrived ∙ ap arrival c.deliver.ensures.register) c.look.ensures
    (c.tell_step-2.ensures ∙ ap (λ n. g.W.Watch.tells c.look.new.self (step_of c.match-deliver.tick n)) number)
