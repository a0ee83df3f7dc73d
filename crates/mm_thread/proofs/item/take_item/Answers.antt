use Rattle.std.proofs.Common.{sym, ap, ◌∙◌}
use Rattle.mm_model.specs.{Slot.Slot, State.slot_at, Turn.is_running}
use Rattle.mm_thread.specs.SlotIndices.{slot_in}
use Rattle.mm_thread.proofs.{Index.slot_found, RowIndex.apart_in}
use Rattle.mm_thread.proofs.Items.{nothing_gives, idles, can_turn, turn-none, turn-running, turn-resting, told-none}
use Rattle.mm_thread.proofs.Items.{told-running, told-resting}
use Rattle.mm_thread.proofs.item.take_item.Goals as goal

pub start-requires-clause-can : goal.start-requires-clause-can
start-requires-clause-can g c =
    let a = c.args in
    let r = c.requires in
    let runs = ap (λ (x : Slot). is_running x.state) (sym c.slot.ensures) ∙ sym c.is_running.ensures ∙ c.if-is_running.true in
    can_turn a.tables.now r.whole r.turns c.in-Some.slot_index c.in-Some.ensures.within runs

pub returns-in-None : goal.returns-in-None
returns-in-None g c =
    let a = c.args in
    let t = a.tables.now in
    let m = g.M.Memory.meaning a.mem.now in
    let none = ap (slot_at t) (sym c.from.ensures) ∙ c.in-None.ensures.missing in
    rw (turn-none t m a.item none, told-none t m a.item none) (nothing_gives g.M.Memory.meaning g.M.Memory.uses g.M.Memory.stands g.W.Watch.tells _ _ a.mem.now c.take_port.new.tables c.take_port.new.watch c.take_port.ensures)

pub returns-then-is_running : goal.returns-then-is_running
returns-then-is_running g c =
    let a = c.args in
    let t = a.tables.now in
    let p = c.in-Some.slot_index in
    let m = g.M.Memory.meaning a.mem.now in
    let found = ap (slot_at t) (sym (c.in-Some.ensures.number ∙ c.from.ensures)) ∙ slot_found t (apart_in t c.requires.whole) p c.in-Some.ensures.within in
    let runs = ap (λ (x : Slot). is_running x.state) (sym c.slot.ensures) ∙ sym c.is_running.ensures ∙ c.if-is_running.true in
    rw (turn-running t m a.item (slot_in t p) found runs, told-running t m a.item (slot_in t p) found runs) c.start.ensures

pub returns-else-is_running : goal.returns-else-is_running
returns-else-is_running g c =
    let a = c.args in
    let t = a.tables.now in
    let p = c.in-Some.slot_index in
    let m = g.M.Memory.meaning a.mem.now in
    let found = ap (slot_at t) (sym (c.in-Some.ensures.number ∙ c.from.ensures)) ∙ slot_found t (apart_in t c.requires.whole) p c.in-Some.ensures.within in
    let rests = ap (λ (x : Slot). is_running x.state) (sym c.slot.ensures) ∙ sym c.is_running.ensures ∙ c.if-is_running.false in
    rw (turn-resting t m a.item (slot_in t p) found rests, told-resting t m a.item (slot_in t p) found rests) (nothing_gives g.M.Memory.meaning g.M.Memory.uses
    g.M.Memory.stands g.W.Watch.tells a.watch.now _ a.mem.now t c.tell_step.new.watch (idles g.W.Watch.tells g.W.Watch.looks a.watch.now t m a.item c.tell_step.new.watch c.tell_step.ensures))
