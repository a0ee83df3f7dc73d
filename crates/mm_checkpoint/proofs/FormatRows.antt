-- The rows of a checkpoint's slots: those that wait, and their events.
use Rattle.std.proofs.Common.{◌≡◌, ℕ, ◌+◌, ◌*◌, ◌<◌, suc, Bool, true, false, cond, inl, inr, List, [], ◌∷◌, ◌++◌}
use Rattle.std.proofs.Common.{length, map, Option, Some, None, refl, sym, ap, subst, ◌∙◌, arith, eq-eqb, eqb-true}
use Rattle.std.proofs.lemmas.Bool.{ne_eqb}
use Rattle.std.specs.{Prelude.{◌⊎◌, ◌==◌, count_by, is_some, option_map, unwrap_or, IsSomeAnd}, List.AllByRecursion}
use Rattle.mm_model.proofs.{TurnKeeps.each_of, CoreRows.{out_of_map, each_map, each_both}, OwnSlots.Ascends}
use Rattle.mm_model.specs.{declared.event.Event.Event, Flags.one_if, Fits.{is_waiting, identity_of, EventHoldsWords}}
use Rattle.mm_model.specs.{Turn.is_handler, Slot.Slot}
use Rattle.mm_machine.specs.Snapshot.{DoesNotFall, queues_of, numbered, IsEventOf, IsAwaited, HasOneEvent, IsTypedEvent}
use Rattle.mm_format.specs.Formats.{each, cons}
use Rattle.mm_checkpoint.specs.declared.{waiting.Waiter.Waiter, rows.{Queued.Queued, SlotRow.SlotRow}}
use Rattle.mm_checkpoint.specs.{Checkpoints.{event_of, place_in, place_byte}, Reading.{handler_of, in_order, events_of}}
use Rattle.mm_checkpoint.specs.{Tests.waits_with, Format.{event_in, place_in_row, slot_row, waiter_in, waiters_in}}
use Rattle.mm_checkpoint.proofs.Counts.{each_append, none_count, count_none, count_yes, count_no, count_map, find_some}
use Rattle.mm_checkpoint.proofs.{Counts.find_none, FormatFits.{IsWaitingRow, IsIdleRow, IsRow, row_fits}}
use Rattle.mm_checkpoint.proofs.Order.{is_of, AreRight, Rises, each_in_order, each_event, count_in_order, order_rises}
use Rattle.mm_checkpoint.proofs.{Order.{each_place, falls_not, place_found}, Owns.each_numbered, States.byte_waits}

abbrev pub slots_of : List SlotRow → List Slot
slots_of rows = map (λ (r : SlotRow). r.slot) rows

-- 1. What fits.

pub rows_fit : (split : Bool) (cycles : ℕ) (slots : List Slot) (rows : List SlotRow)
    → (each (slot_row split cycles) slots).Fits rows
    → AllByRecursion (IsRow split cycles) rows × (map identity_of (slots_of rows) ≡ map identity_of slots)
unfolding cons
rows_fit split cycles [] rows fits =
    subst (λ rows. AllByRecursion (IsRow split cycles) rows × (map identity_of (slots_of rows) ≡ [])) (sym fits)
    (tt, refl)
rows_fit split cycles (s ∷ slots) [] fits = absurd fits
rows_fit split cycles (s ∷ slots) (r ∷ rows) fits =
    let one = row_fits split cycles s r fits.0 in
    let others = rows_fit split cycles slots rows fits.1 in (
      (one.0, others.0),
      ap (λ x. x ∷ map identity_of (slots_of rows)) one.1 ∙ ap (λ xs. identity_of s ∷ xs) others.1,
    )

-- 2. Waiters.

-- a row says of its event what it has to
abbrev pub IsSettled : SlotRow → Type 0
IsSettled r = IsWaitingRow r ⊎ IsIdleRow r

abbrev the_waiter : ℕ → SlotRow → Queued → Waiter
the_waiter at r q = record { handler = handler_of r.slot; place = q.place; at = at + 2; event = q.event }

abbrev next : ℕ → SlotRow → ℕ
next at r = at + 171 + 10 * length r.slot.pending

each_waiter : (Q : Waiter → Type 0) (P : SlotRow → Type 0)
    → ((r : SlotRow) → P r → (at : ℕ) (w : IsWaitingRow r) → Q (the_waiter at r w.queued))
    → (rows : List SlotRow) (at : ℕ) → AllByRecursion IsSettled rows → AllByRecursion P rows
    → AllByRecursion Q (waiters_in at rows)
each_waiter Q P f [] at all h = tt
each_waiter Q P f (r ∷ rows) at all h =
    each_append _ (waiter_in at r.slot r.queued) (waiters_in (next at r) rows) (own all.0)
    (each_waiter Q P f rows (next at r) all.1 h.1)
  where
    own : IsSettled r → AllByRecursion Q (waiter_in at r.slot r.queued)
    own (inl w) = subst (λ q. AllByRecursion Q (waiter_in at r.slot q)) (sym w.is) (f r h.0 at w, tt)
    own (inr idle) = subst (λ q. AllByRecursion Q (waiter_in at r.slot q)) (sym idle.none) tt

-- what a waiter of a row's slot says
record Tells (r : SlotRow) (x : Waiter) : Type 0 where
  handler : x.handler ≡ handler_of r.slot
  place : x.place ≡ place_in_row r.queued
  event : Some x.event ≡ event_in r

-- the waiters of a row's slot, of which there is one if it waits
record Told (ws : List Waiter) (r : SlotRow) : Type 0 where
  only : AllByRecursion (λ (x : Waiter). x.event.slot ≡ r.slot.number → Tells r x) ws
  count : count_by (is_of r.slot.number) ws ≡ one_if (is_waiting r.slot.state)

abbrev IsAbove : ℕ → SlotRow → Type 0
IsAbove n r = n < r.slot.number

each_told : (rows : List SlotRow) (at : ℕ) → AllByRecursion IsSettled rows → Ascends (slots_of rows)
    → AllByRecursion (Told (waiters_in at rows)) rows
each_told [] at all up = tt
each_told (r ∷ rows) at all up = by all.0 (each_told rows (next at r) all.1 up.1)
  where
    n : ℕ
    n = r.slot.number

    ws : List Waiter
    ws = waiters_in (next at r) rows

    above : AllByRecursion (IsAbove r.slot.number) rows
    above = out_of_map _ (λ (r : SlotRow). r.slot) rows up.0

    later : AllByRecursion (λ (w : Waiter). r.slot.number < w.event.slot) (waiters_in (next at r) rows)
    later =
        each_waiter (λ (w : Waiter). r.slot.number < w.event.slot) (IsAbove r.slot.number)
        (λ x lt at w. let same = w.slot in omega (arith, lt, same)) rows (next at r) all.1 above

    none : count_by (is_of r.slot.number) (waiters_in (next at r) rows) ≡ 0
    none =
        none_count (is_of r.slot.number) (waiters_in (next at r) rows)
        (each_map _ _
        (λ w lt. ne_eqb w.event.slot r.slot.number (λ e. omega arith)) (waiters_in (next at r) rows) later)

    only : AllByRecursion (λ (x : Waiter). x.event.slot ≡ r.slot.number → Tells r x) (waiters_in (next at r) rows)
    only =
        each_map _ _ (λ x lt e. absurd (omega arith))
        (waiters_in (next at r) rows) later

    by : IsSettled r → AllByRecursion (Told (waiters_in (next at r) rows)) rows
        → AllByRecursion (Told (waiter_in at r.slot r.queued ++ waiters_in (next at r) rows)) (r ∷ rows)
    by (inl w) rest =
        let x = the_waiter at r w.queued in
        let slot = w.slot in
        subst (λ q. AllByRecursion (Told (waiter_in at r.slot q ++ waiters_in (next at r) rows)) (r ∷ rows)) (sym w.is) (
          record {
            only = (
              λ e. record {
                handler = refl;
                place = sym (ap place_in_row w.is);
                event = sym (ap (option_map (λ (q : Queued). q.event)) w.is);
              },
              only,
            );
            count = count_yes (is_of r.slot.number) x (waiters_in (next at r) rows) (eq-eqb _ _ slot)
                ∙ ap suc none ∙ sym (ap one_if w.waits);
          },
          each_both _ _ _ (λ y lt t. record {
            only = (λ e. absurd (omega (arith, e, slot, lt)), t.only);
            count = count_no (is_of y.slot.number) x (waiters_in (next at r) rows)
                (ne_eqb x.event.slot y.slot.number (λ e. omega (arith, e, slot, lt))) ∙ t.count;
          }) rows above rest,
        )
    by (inr idle) rest =
        subst (λ q. AllByRecursion (Told (waiter_in at r.slot q ++ waiters_in (next at r) rows)) (r ∷ rows))
        (sym idle.none) (record { only = only; count = none ∙ sym (ap one_if idle.rests) }, rest)

-- 3. Events.

own_handler : (h : Option ℕ) → is_some h ≡ true → is_handler (unwrap_or h 0) h ≡ true
own_handler None e = absurd cc
own_handler (Some h) e = eq-eqb h h refl

handler_same : (h : Option ℕ) → elim h as (λ _. ℕ) [ None ↦ 0 | Some handler ↦ handler ] ≡ unwrap_or h 0
handler_same None = refl
handler_same (Some handler) = refl

-- the events have that of the row, at its place
pub record Agrees (events : List (ℕ × Event)) (r : SlotRow) : Type 0 where
  pub event : event_of events r.slot.number ≡ event_in r
  pub place : place_byte events r.slot ≡ place_in_row r.queued

module _ (rows : List SlotRow) (at : ℕ) (all : AllByRecursion IsSettled rows) (up : Ascends (slots_of rows)) where
  abbrev waiters : List Waiter
  waiters = waiters_in at rows

  abbrev sorted : List Waiter
  sorted = in_order waiters

  abbrev events : List (ℕ × Event)
  events = events_of sorted

  told : AllByRecursion (Told waiters) rows
  told = each_told rows at all up

  abbrev is_event_of : ℕ → ℕ × Event → Bool
  is_event_of n x = x.1.slot == n

  count_events : (n : ℕ) → count_by (is_event_of n) events ≡ count_by (is_of n) waiters
  count_events n =
      count_map (is_event_of n) (λ (w : Waiter). (w.handler, w.event)) sorted ∙ count_in_order (is_of n) waiters

  pub one_event : AllByRecursion (λ (r : SlotRow). HasOneEvent events r.slot) rows
  one_event = each_map _ _
      (λ r t. record { count = count_events r.slot.number ∙ t.count }) rows told

  module _ (right : AreRight waiters [] waiters) where
    rising : Rises sorted
    unfolding in_order
    rising = order_rises waiters [] [] waiters (λ P h. h) tt right

    pub fall_not : DoesNotFall (queues_of events)
    fall_not = falls_not sorted rising

    below : (h : ℕ) → AllByRecursion (λ (w : Waiter). w.handler ≡ h → w.place < count_by (waits_with h) sorted) sorted
    below h =
        each_in_order _ waiters
        (each_map _ _ (λ w lt e.
        let same = count_in_order (waits_with h) waiters in
        let here = ap (λ g. count_by (waits_with g) waiters) e in
        omega (arith, lt, same, here)) waiters (each_place waiters [] waiters right))

    agrees : (r : SlotRow) → IsSettled r → Told waiters r → Agrees events r
    agrees r (inl w) t =
        let s = r.slot in
        let n = s.number in
        let h = handler_of s in
        let only = each_in_order _ waiters t.only in
        let one : count_by (is_of n) sorted ≡ 1 = count_in_order (is_of n) waiters ∙ t.count ∙ ap one_if w.waits in
        let many = count_events n ∙ t.count ∙ ap one_if w.waits in
        let own = find_some (is_event_of n) (λ (x : ℕ × Event). x.1.slot ≡ n → Some x.1 ≡ event_in r) events
        (each_event _ sorted
        (each_map _ _ (λ x f e. (f e).event) sorted only))
        (omega (arith, many)) in
        let place = place_found h (count_by (waits_with h) sorted) n (place_in_row r.queued) 0 sorted rising
        (each_of _ (λ x e. omega arith) sorted) (below h) (omega arith)
        (each_map _ _
        (λ x f e. ((f e).handler, (f e).place)) sorted only) (omega (arith, one)) in
        record {
          event = ap (option_map (λ (x : ℕ × Event). x.1)) own.found ∙ own.holds (eqb-true _ n own.passes);
          place = ap (λ b. cond b (place_in events (elim s.handler as (λ _. ℕ) [ None ↦ 0 | Some handler ↦ handler ])
              n) 0) (byte_waits s.state ∙ w.waits)
              ∙ ap (λ h. place_in events h n) (handler_same s.handler) ∙ omega (arith, place);
        }
    agrees r (inr idle) t =
        let s = r.slot in record {
          event = ap (option_map (λ (x : ℕ × Event). x.1)) (find_none _ events
              (count_none (is_event_of s.number) events (count_events s.number ∙ t.count ∙ ap one_if idle.rests)))
              ∙ sym (ap (option_map (λ (q : Queued). q.event)) idle.none);
          place = ap (λ b. cond b (place_in events (elim s.handler as (λ _. ℕ) [ None ↦ 0 | Some handler ↦ handler ])
              s.number) 0) (byte_waits s.state ∙ idle.rests) ∙ sym (ap place_in_row idle.none);
        }

    pub each_agrees : AllByRecursion (Agrees events) rows
    each_agrees = each_both _ _ _ agrees rows all told

  is_awaited : (r : SlotRow) → numbered (slots_of rows) r.slot.number ≡ Some r.slot → (w : IsWaitingRow r)
      → IsAwaited (slots_of rows) (handler_of r.slot, w.queued.event)
  is_awaited r found w =
      subst (λ o. IsSomeAnd o (IsEventOf (handler_of r.slot) w.queued.event))
      (sym (ap (numbered (slots_of rows)) w.slot ∙ found)) (record {
        waits = ap (λ b. cond b (is_handler (handler_of r.slot) r.slot.handler) false) w.waits
            ∙ own_handler r.slot.handler w.handled;
        ip = w.ip;
      })

  of_events : (P : ℕ × Event → Type 0) → AllByRecursion (λ (w : Waiter). P (w.handler, w.event)) waiters
      → AllByRecursion P events
  of_events P h = each_event _ sorted (each_in_order _ waiters h)

  pub awaited : AllByRecursion (IsAwaited (slots_of rows)) events
  awaited =
      of_events (IsAwaited (slots_of rows))
      (each_waiter (λ (w : Waiter). IsAwaited (slots_of rows) (w.handler, w.event))
      (λ (r : SlotRow). numbered (slots_of rows) r.slot.number ≡ Some r.slot) (λ r found at w. is_awaited r found w) rows
      at all
      (out_of_map _ (λ (r : SlotRow). r.slot) rows
      (each_numbered (slots_of rows) up)))

  pub typed_events : AllByRecursion IsTypedEvent events
  typed_events = of_events IsTypedEvent
      (each_waiter (λ (w : Waiter). EventHoldsWords w.event) IsSettled (λ r settled at w. w.words) rows at all all)
