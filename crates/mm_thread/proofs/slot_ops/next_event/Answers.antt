use Rattle.std.{proofs.Common.{◌≡◌, drop, List, ap, sym, ◌∙◌}, specs.Prelude.slice_get}
use Rattle.mm_model.specs.{declared.{slot.SlotState.TheVariants.Taken, event.Event.Event}, Slot.Slot}
use Rattle.mm_model.specs.{State.{Core, slot_at}, Effect.plain, Turn.{slot_after, is_running}}
use Rattle.mm_thread.specs.SlotIndices.{slot_in, queue_in, with_slot, with_queue_in, event_writes}
use Rattle.mm_thread.proofs.{Index.slot_found, Cores.slot_in-other}
use Rattle.mm_thread.proofs.SlotUpdates.{no_event, no_slot_of_event, takes_event, event_differs, goes_after, leaves_at}
use Rattle.mm_thread.proofs.{SlotUpdates.{none_first, some_first}, RowIndex.apart_in}
use Rattle.mm_thread.proofs.slot_ops.next_event.Goals as goal

pub returns-in_default : goal.returns-in_default
returns-in_default c = λ m.
    let t = c.args.tables.now in
    let p = c.args.slot_index in
    let r = c.requires in
    let none = none_first (queue_in t p) (ap (λ (es : List Event). slice_get es 0) (sym c.queue.ensures) ∙ sym c.first.ensures.value ∙ sym c.copied.ensures ∙ c.in_default.is) in
    no_event t (apart_in t r.whole) p r.within m c.args.rd none

pub returns-in_default-find_slot : goal.returns-in_default-find_slot
returns-in_default-find_slot c = λ m.
    let t = c.args.tables.now in
    let p = c.args.slot_index in
    let r = c.requires in
    let e = c.in-Some.event in
    let some = some_first (queue_in t p) e (ap (λ (es : List Event). slice_get es 0) (sym c.queue.ensures) ∙ sym c.first.ensures.value ∙ sym c.copied.ensures ∙ c.in-Some.is) in
    no_slot_of_event t (apart_in t r.whole) p r.within m c.args.rd e (drop 1 (queue_in t p)) some (ap (slot_at t) (sym c.from.ensures) ∙ c.in_default-find_slot.ensures.missing)

pub take_event-requires-clause-runs : goal.take_event-requires-clause-runs
take_event-requires-clause-runs c =
    let t = c.args.tables.now in
    let p = c.args.slot_index in
    let r = c.requires in
    let e = c.in-Some.event in
    let q = c.in-Some-find_slot.of in
    let inside = c.in-Some-find_slot.ensures.within in
    let rest = drop 1 (queue_in t p) in
    let some = some_first (queue_in t p) e (ap (λ (es : List Event). slice_get es 0) (sym c.queue.ensures) ∙ sym c.first.ensures.value ∙ sym c.copied.ensures ∙ c.in-Some.is) in
    let other = event_differs t r.whole p r.within r.runs e rest some q inside (c.in-Some-find_slot.ensures.number ∙ c.from.ensures) in
    ap (λ (k : Core). is_running (slot_in k p).state) c.set_taken.ensures
    ∙ ap (λ (x : Slot). is_running x.state) (slot_in-other t q p (record (slot_in t q) { state = Taken }) (λ same. other (sym same)))
    ∙ r.runs

pub returns : goal.returns
returns c = λ m.
    let t = c.args.tables.now in
    let p = c.args.slot_index in
    let r = c.requires in
    let e = c.in-Some.event in
    let q = c.in-Some-find_slot.of in
    let inside = c.in-Some-find_slot.ensures.within in
    let rest = drop 1 (queue_in t p) in
    let some = some_first (queue_in t p) e (ap (λ (es : List Event). slice_get es 0) (sym c.queue.ensures) ∙ sym c.first.ensures.value ∙ sym c.copied.ensures ∙ c.in-Some.is) in
    let number : (slot_in t q).number ≡ e.slot = c.in-Some-find_slot.ensures.number ∙ c.from.ensures in
    let other = event_differs t r.whole p r.within r.runs e rest some q inside number in
    let found = ap (slot_at t) (sym number) ∙ slot_found t (apart_in t r.whole) q inside in
    let o : Slot = record (slot_in t q) { state = Taken } in
    let f : Slot → Slot = λ x. slot_after x (record (plain x) { writes = event_writes c.args.rd e }) in
    let after : Core = with_slot (with_slot t q o) p (f (slot_in t p)) in
    leaves_at t m (slot_in t p) _ (with_queue_in after p (drop 1 (queue_in after p))) c.remove_event.new.self _
    (takes_event t (apart_in t r.whole) p r.within m e rest some q inside other found c.args.rd)
    (c.remove_event.ensures ∙ ap (λ (k : Core). with_queue_in k p (drop 1 (queue_in k p)))
    (goes_after t q p o f other c.set_taken.new.self c.take_event.new.self c.set_taken.ensures
    c.take_event.ensures))
