use Rattle.std.proofs.Common.{◌++◌, [], ◌∷◌, length, arith, sym, ap, ◌∙◌}
use Rattle.mm_model.specs.{declared.slot.SlotState.TheVariants.Waiting, State.{Core, slot_at}, Turn.stood}
use Rattle.mm_thread.specs.SlotIndices.{slot_in, queue_in, with_queue_in}
use Rattle.mm_thread.proofs.{Cores.{handler_there, queue_room, queue_in-slot, faulted-handled}, RowIndex.apart_in}
use Rattle.mm_thread.proofs.fault.wait_for.Goals as goal

pub unreachable-requires : goal.unreachable-requires
unreachable-requires c =
    let a = c.args in
    let r = c.requires.can in
    handler_there a.tables.now r.whole a.slot_index r.within a.handler c.requires.handler (ap (slot_at a.tables.now) (sym c.from.ensures) ∙ c.in_default.ensures.missing)

pub push_event-requires-clause-room : goal.push_event-requires-clause-room
push_event-requires-clause-room c =
    let a = c.args in
    let r = c.requires.can in
    let same = ap (λ (core : Core). length (queue_in core c.in-Some.at)) c.stand.ensures
    ∙ ap length (queue_in-slot a.tables.now a.slot_index c.in-Some.at (stood (slot_in a.tables.now a.slot_index) Waiting)
    r.within) in
    omega (arith, queue_room a.tables.now r.whole a.slot_index r.within r.runs c.in-Some.at c.in-Some.ensures.within)

pub returns : goal.returns
returns c =
    let a = c.args in
    let r = c.requires.can in
    c.push_event.ensures
    ∙ ap (λ (core : Core). with_queue_in core c.in-Some.at (queue_in core c.in-Some.at ++ a.event ∷ [])) c.stand.ensures
    ∙ faulted-handled a.tables.now (apart_in a.tables.now r.whole) a.slot_index r.within a.event a.handler c.in-Some.at c.in-Some.ensures.within (c.in-Some.ensures.number ∙ c.from.ensures)
