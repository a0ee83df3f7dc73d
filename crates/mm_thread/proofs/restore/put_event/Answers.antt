use Rattle.std.proofs.Common.{[], ◌∷◌, ◌++◌, sym, ap, ◌∙◌}
use Rattle.mm_model.specs.State.{slot_at, queue_at}
use Rattle.mm_thread.proofs.Assigned.{event_put, room_at, event_unput}
use Rattle.mm_thread.proofs.restore.put_event.Goals as goal

pub push_event-requires-clause-room : goal.push_event-requires-clause-room
push_event-requires-clause-room c =
    room_at c.args.tables.now c.requires.apart c.in-Some.slot_index c.args.number c.in-Some.ensures.within (c.in-Some.ensures.number ∙ c.from.ensures) c.requires.room

pub returns-in-Some : goal.returns-in-Some
returns-in-Some c =
    c.push_event.ensures ∙ event_put c.args.tables.now c.requires.apart c.in-Some.slot_index c.args.number c.args.event c.in-Some.ensures.within (c.in-Some.ensures.number ∙ c.from.ensures)

pub returns-in_default : goal.returns-in_default
returns-in_default c =
    let t = c.args.tables.now in
    event_unput t c.args.number (queue_at t c.args.number ++ c.args.event ∷ []) (ap (slot_at t) (sym c.from.ensures) ∙ c.in_default.ensures.missing)
