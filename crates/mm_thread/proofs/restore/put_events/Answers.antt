use Rattle.std.proofs.Common.{◌≡◌, ◌≤◌, ◌<◌, ◌+◌, ℕ, List, [], ◌∷◌, ◌++◌, map, take, drop, length, sym, ap, subst, ◌∙◌}
use Rattle.std.proofs.{Common.arith, lemmas.List.{take_more, take-append-drop}}
use Rattle.std.specs.{Prelude.IfSome, List.AllByRecursion}
use Rattle.mm_model.specs.{declared.event.Event.Event, Slot.Slot, State.{Core, ThreadRow, row_in, queue_at, put_queue}}
use Rattle.mm_model.specs.{Spelling.numbers_of, Fits.slots_of}
use Rattle.mm_thread.specs.Parts.{events_for, row_with}
use Rattle.mm_thread.proofs.{Index.apart_by, Assigned.{event_more, event_room, slots-with}}
use Rattle.mm_thread.proofs.restore.put_events.Goals as goal

pub put_event-requires-clause-apart : goal.put_event-requires-clause-apart
put_event-requires-clause-apart c =
    let t = c.args.tables.now in
    let same : slots_of c.loop-number.tables ≡ slots_of t = ap slots_of c.loop-number.invariant ∙ slots-with (take c.loop-number.number-index c.args.events.now) (slots_of t) in
    apart_by t c.loop-number.tables (ap numbers_of same) c.requires.apart

pub put_event-requires-clause-room : goal.put_event-requires-clause-room
put_event-requires-clause-room c =
    let t = c.args.tables.now in
    let events = c.args.events.now in
    let i = c.loop-number.number-index in
    let x = c.loop-number-item.result in
    let xs = take i events in
    let next : take (i + 1) events ≡ xs ++ x ∷ [] = take_more events i x (omega arith) ∙ ap (λ (y : ℕ × Event). xs ++ y ∷ []) (sym c.loop-number-item.is) in
    let all : events ≡ (xs ++ x ∷ []) ++ drop (i + 1) events = sym (take-append-drop (i + 1) events) ∙ ap (λ (front : List (ℕ × Event)). front ++ drop (i + 1) events) next in
    let Few : List (ℕ × Event) → Type 0 = λ ys. AllByRecursion (λ (s : Slot). length (events_for s.number ys) ≤ 64) (slots_of t) in
    let P : List ThreadRow → Type 0 = λ rows. IfSome (row_in rows x.0) (λ row. length row.queue < 64) in
    subst P (ap (λ (k : Core). k.rows) (sym c.loop-number.invariant)) (event_room xs x.0 x.1 (drop (i + 1) events) (slots_of t) (subst Few all c.requires.room))

pub loop-number-preserved : goal.loop-number-preserved
loop-number-preserved c =
    let t = c.args.tables.now in
    let events = c.args.events.now in
    let i = c.loop-number.number-index in
    let x = c.loop-number-item.result in
    let xs = take i events in
    let next : take (i + 1) events ≡ xs ++ x ∷ [] = take_more events i x (omega arith) ∙ ap (λ (y : ℕ × Event). xs ++ y ∷ []) (sym c.loop-number-item.is) in
    c.put_event.ensures ∙ ap (λ (k : Core). put_queue k x.0 (queue_at k x.0 ++ x.1 ∷ [])) c.loop-number.invariant ∙ event_more xs x.0 x.1 t (slots_of t)
    ∙ ap (λ (ys : List (ℕ × Event)). record t { rows = map (row_with ys) (slots_of t) }) (sym next)
