use Rattle.std.proofs.Common.{◌≡◌, ◌≢◌, ℕ, Option, Some, None, Bor, refl, ap, ◌∙◌, append_assoc, length, rules, sym}
use Rattle.std.specs.{Prelude.IfSome, Int.{w64, to_be_bytes}, Option.{unwrap_or, option_map, option_copied}}
use Rattle.mm_word.specs.Pointer.{bits_of}
use Rattle.mm_model.specs.{declared.event.Event.Event, Slot.Slot}
use Rattle.mm_checkpoint.specs.{declared.writing.QueuedEvent.QueuedEvent, Checkpoints.{event_of, place_in, place_byte}}
use Rattle.mm_checkpoint.proofs.{Owns.place_matches, Spelled.{event_back, place_back, record_spelled}}
use Rattle.mm_checkpoint.proofs.writing.put_slot.Goals as goal

-- 1. What is read behind a reference.

copied : {A : Type 0} (f : QueuedEvent → A) (o : Option (Bor QueuedEvent)) → option_map (λ (q : Bor QueuedEvent). f q.now) o ≡ option_map f (option_copied o)
copied f None = refl
copied f (Some q) = refl

abbrev event_in : Option QueuedEvent → Option Event
event_in o = option_map (λ (q : QueuedEvent). q.event) o

abbrev place_of : Option QueuedEvent → ℕ
place_of o = unwrap_or (option_map (λ (q : QueuedEvent). q.place) o) 0

absent : (o : Option QueuedEvent) → event_in o ≡ None → place_of o ≡ 0
absent None none = refl
absent (Some q) none = cc

present : (o : Option QueuedEvent) (n : ℕ) → IfSome o (λ (q : QueuedEvent). q.place ≡ n) → event_in o ≢ None → place_of o ≡ n
present None n is some = absurd (some refl)
present (Some q) n is some = is

-- 2. The record.

pub returns : goal.returns
returns c =
    let s = c.args.slot.now in
    let events = c.args.events.now in
    let queued = c.event_of-queued.result in
    let number = ap (λ (x : Slot). x.number) c.slot.view_is in
    let handler = ap (λ (x : Slot). x.handler) c.slot.view_is in
    let is_event : event_in queued ≡ event_of events s.number =
    c.event_of-queued.ensures.event ∙ ap (event_of events) number in
    let is_place : place_of queued ≡ place_byte events s =
    place_matches events s (place_of queued) (event_in queued) c.requires.one_event c.requires.handled is_event
    (absent queued) (λ h is some. present queued (place_in events h c.slot.inside.number)
    (c.event_of-queued.ensures.place h (handler ∙ is)) some ∙ ap (place_in events h) number) in
    let row_event = is_event ∙ sym (event_back events s) in
    let row_place = place_back (place_byte events s) (place_of queued) (event_of events s.number)
    (λ none. absent queued (is_event ∙ none)) is_place in
    let turns = c.to_be_bytes.ensures ∙ ap (λ (x : Slot). to_be_bytes w64 x.turns) c.slot.view_is in
    let ip = c.to_be_bytes-2.ensures
    ∙ ap (to_be_bytes w64) (c.bits.ensures.bits ∙ ap (λ (x : Slot). bits_of x.ip) c.slot.view_is) in
    let loads = c.as_slice.ensures.value ∙ ap (λ (x : Slot). x.pending) c.slot.view_is in
    let event = copied (λ (q : QueuedEvent). q.event) c.as_ref.result ∙ ap event_in c.as_ref.ensures.value ∙ row_event in
    let again = copied (λ (q : QueuedEvent). q.event) c.as_ref-2.result ∙ ap event_in c.as_ref-2.ensures.value
    ∙ row_event in
    let place = ap (λ (o : Option ℕ). unwrap_or o 0) (copied (λ (q : QueuedEvent). q.place) c.as_ref.result)
    ∙ ap place_of c.as_ref.ensures.value ∙ row_place in
    let long : length c.slot.inside.regs ≡ 16 = search rules in
    let sixteen : length s.regs ≡ 16 = ap (λ (x : Slot). length x.regs) (sym c.slot.view_is) ∙ long in
    rw (
      record_spelled events s sixteen,
      c.in_ok-put_pending.ensures,
      loads,
      c.in_ok-put_operands.ensures,
      again,
      c.in_ok-put_registers.ensures,
      c.in_ok-extend_from_slice-2.ensures.items,
      ip,
      c.in_ok-extend_from_slice.ensures.items,
      turns,
      c.in_ok-put_state.ensures,
      event,
      place,
    ) (simp append_assoc)
