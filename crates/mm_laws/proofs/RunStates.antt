-- What each state of a run is.
use Rattle.std.proofs.Common.{◌≡◌, ℕ, ◌≤◌, true, List, [], ◌∷◌, length, Option, Some, None, refl, ap, ◌∙◌, subst}
use Rattle.std.specs.{Prelude.IfSome, List.AllByRecursion}
use Rattle.mm_model.specs.{declared.event.Event.Event, Flags.one_if, Slot.Slot, State.{State, slot_at, queue_at}}
use Rattle.mm_model.specs.{Image.{Image, start}, Spelling.IsImage, Run.{after, run}}
use Rattle.mm_model.specs.Fits.{is_waiting, waits_for, IsState, LoadsMatch, WaitsForSome, Fits, IsAtSlot}
use Rattle.mm_model.specs.Fits.{EventsAreAtSlots, IsConsistent, IsSlot, TurnsWithin}
use Rattle.mm_model.proofs.CoreRows.{each_both, each_map, slot_at-number, slot_has}
use Rattle.mm_model.proofs.{CoreSteps.{waits_for-says, waits_for-at}, StateKeeps.{after_state, after_fits, after_kept}}
use Rattle.mm_model.proofs.TurnBounds.{turn_takes, after_within}
use Rattle.mm_model.proofs.Starts.{start_state, start_fits, start_kept, start_within}
use Rattle.mm_model.proofs.Shortness.{queue_short, pending_short, queued_at}
use Rattle.mm_laws.specs.States.{CountsTurns, WaitsFor, WaitsAt, IsQueued}

-- 1. The start, a turn and a run.

pub starts : (i : Image) → IsImage i → IsState (start i) × Fits i (start i) × TurnsWithin (start i)
starts i h = (start_state i h, start_fits i h, start_within i h)

pub takes_turn : (i : Image) (s : State) (n k : ℕ) (now : Slot) → IsState s → Fits i s → slot_at (after s n).core k ≡ Some now → CountsTurns s n k now
unfolding after
takes_turn i s n k now h fits is =
    let from = turn_takes s.core s.memory n h.core fits.matched k now is in
    record { was = from.was; stands = from.stands; turns = from.turns }

-- what holds of the state after each turn: it is a state that fits the image, it keeps what the types keep, and no slot has taken too
-- many turns
record Reached (i : Image) (s : State) : Type 0 where
  state : IsState s
  fits : Fits i s
  kept : IsConsistent s.core
  few : TurnsWithin s

reached_after : (i : Image) (s : State) (n : ℕ) → IsImage i → Reached i s → Reached i (after s n)
reached_after i s n img r = record {
  state = after_state s n r.state;
  fits = after_fits i s n img r.state r.fits;
  kept = after_kept i s n img r.state r.fits r.kept;
  few = after_within s n r.state.core r.fits.matched r.few;
}

run_reached : (i : Image) (s : State) (items : List ℕ) → IsImage i → Reached i s → Reached i (run s items)
unfolding run
run_reached i s [] img r = r
run_reached i s (n ∷ items) img r = run_reached i (after s n) items img (reached_after i s n img r)

runs_reached : (i : Image) (items : List ℕ) → IsImage i → Reached i (run (start i) items)
runs_reached i items img = run_reached i (start i) items img (record { state = start_state i img; fits = start_fits i img; kept = start_kept i img.rising img.fresh; few = start_within i img })

pub runs_fit : (i : Image) (items : List ℕ) → IsImage i → IsState (run (start i) items) × Fits i (run (start i) items)
runs_fit i items img = let r = runs_reached i items img in (r.state, r.fits)

pub runs_kept : (i : Image) (items : List ℕ) → IsImage i → IsConsistent (run (start i) items).core
runs_kept i items img = (runs_reached i items img).kept

pub runs_within : (i : Image) (items : List ℕ) → IsImage i → TurnsWithin (run (start i) items)
runs_within i items img = (runs_reached i items img).few

-- 2. Waiting slots and queued events.

pub queued : (i : Image) (s : State) → Fits i s → (h : ℕ) → AllByRecursion (WaitsFor s h) (queue_at s.core h)
queued i s fits h =
    each_map (λ (e : Event). waits_for h (slot_at s.core e.slot) ≡ true) (WaitsFor s h) (λ e waits. by e (slot_at s.core e.slot) refl waits) (queue_at s.core h) (queued_at s.core fits.matched h)
  where
    by : (e : Event) (o : Option Slot) → slot_at s.core e.slot ≡ o → waits_for h o ≡ true → WaitsFor s h e
    by e None is waits = cc
    by e (Some x) is waits = let says = waits_for-says h x waits in record { of = x; stands = is; waiting = says.0; handler = says.1 }

pub stand : (i : Image) (s : State) → Fits i s → EventsAreAtSlots s.core → (h : ℕ) → AllByRecursion (WaitsAt s h) (queue_at s.core h)
stand i s fits in_place h = each_both (WaitsFor s h) (IsAtSlot s.core) (WaitsAt s h) one (queue_at s.core h) (queued i s fits h) (in_place h)
  where
    one : (e : Event) → WaitsFor s h e → IsAtSlot s.core e → WaitsAt s h e
    one e w at = let P : Option Slot → Type 0 = λ o. IfSome o (λ x. e.ip ≡ x.ip) in record { waits = w; ip = subst P w.stands at }

pub waiting : (i : Image) (s : State) → Fits i s → (n : ℕ) (x : Slot) → slot_at s.core n ≡ Some x → is_waiting x.state ≡ true → IsQueued s x
waiting i s fits n x is waits = by x.handler refl
  where
    number : x.number ≡ n
    number = slot_at-number s.core n x is

    by : (o : Option ℕ) → x.handler ≡ o → IsQueued s x
    by None none = absurd (slot_has WaitsForSome s.core n x fits.matched.waiting is waits none)
    by (Some h) has = record { handler = h; has = has; one = fits.matched.events x.number h ∙ ap one_if (ap (waits_for h) (ap (slot_at s.core) number ∙ is) ∙ waits_for-at h x waits has) }

-- 3. Queues and pending loads.

pub short_queues : (i : Image) (s : State) → IsState s → Fits i s → (h : ℕ) → length (queue_at s.core h) ≤ 64
short_queues i s state fits h = queue_short s.core fits.matched h state.core

pub short_pending : (i : Image) (s : State) → IsState s → Fits i s → (n : ℕ) (x : Slot) → slot_at s.core n ≡ Some x → length x.pending ≤ 16
short_pending i s state fits n x is = pending_short x (slot_has IsSlot s.core n x state.core.slots is) (slot_has LoadsMatch s.core n x fits.matched.loads is)
