-- What is copied of a state makes a snapshot.
use Rattle.std.proofs.Common.{◌≡◌, ◌≢◌, ℕ, zero, suc, ◌+◌, ◌<◌, ◌≤◌, inl, inr, Bool, true, false, cond, ◌||◌, eqb, List}
use Rattle.std.proofs.Common.{[], ◌∷◌, ◌++◌, length, map, Option, Some, None, refl, sym, ap, subst, ◌∙◌, arith}
use Rattle.std.proofs.{Common.append-nil, Props.props, Math.{Logic.∥∥₁_elim, Bool.or-true}}
use Rattle.std.proofs.lemmas.{Bool.{cases_eq, eq-eqb, ne_eqb}, List.{get_or-map, length-map}}
use Rattle.std.specs.Prelude.{IfSome, IsSomeAnd, IsTrue, slice_index}
use Rattle.std.specs.{List.{AllByRecursion, flat_map, Sorted.IsStrictlyIncreasing}, Ordering.nat_cmp, FinMap.is_sorted}
use Rattle.mm_word.specs.declared.word.Cell.{Cell}
use Rattle.mm_model.specs.{declared.{slot.SlotState.TheVariants.Taken, event.Event.Event}, Slot.Slot}
use Rattle.mm_model.specs.{State.{ThreadRow, Core, State, row_in, queue_of, slot_at, queue_at}, Groups.has_group}
use Rattle.mm_model.specs.{Spelling.numbers_of, Flags.one_if, Turn.is_taken}
use Rattle.mm_model.specs.Fits.{is_waiting, waits_for, events_of, slots_of, IsSlot, LoadsMatch, WaitsForSome, IsAtSlot}
use Rattle.mm_model.specs.Fits.{LoadsAreConsistent, TakenBySome, IsOfVersion, IsCore, SlotHoldsWords, EventHoldsWords}
use Rattle.mm_model.specs.{Fits.RowHoldsWords, Typed.IsTypedSlot}
use Rattle.mm_model.proofs.CoreRows.{each_map, each_both, rest_rises, above_first, Rises, slot_has, slots_found}
use Rattle.mm_model.proofs.CoreSteps.{some_true, events_of-here, waits_for-rests, waits_for-at, events_more}
use Rattle.mm_image.proofs.SortedEntries.{rises}
use Rattle.mm_thread.{specs.{Output.Output, Parts.events_for}, proofs.{Cores.output_short, Sound.queue-none}}
use Rattle.mm_machine.specs.Validity.{IsValid}
use Rattle.mm_machine.specs.Snapshot.{parts_of, numbered, has_output, page_numbers, queues_of, IsEventOf, IsAwaited}
use Rattle.mm_machine.specs.Snapshot.{HasOneEvent, IsPending, DoesNotFall, IsSnapshot, IsOutputOf, IsTypedEvent}
use Rattle.mm_machine.specs.{Snapshot.{IsTyped, queued, queued_at}, Capture.OutputsBelow}
use Rattle.mm_machine.proofs.{Keeping.valid_core, Pendings.loads_counted}
use Rattle.mm_machine.proofs.{Queues.{slot_numbered, tally, tallied, beside_one, of_none, awaited_by}, Steps.from_zero}

-- 1. The queues one behind the other.

abbrev tagged : ℕ → List Event → List (ℕ × Event)
tagged n es = map (λ (e : Event). (n, e)) es

pub for_own : (n : ℕ) (es : List Event) (rest : List (ℕ × Event)) → events_for n (tagged n es ++ rest) ≡ es ++ events_for n rest
for_own n [] rest = refl
for_own n (e ∷ es) rest = rw (eq-eqb n n refl) (ap (λ (xs : List Event). e ∷ xs) (for_own n es rest))

pub for_other : (n k : ℕ) (es : List Event) (rest : List (ℕ × Event)) → k ≢ n → events_for n (tagged k es ++ rest) ≡ events_for n rest
for_other n k [] rest ne = refl
for_other n k (e ∷ es) rest ne = rw (ne_eqb k n ne) (for_other n k es rest ne)

module _ (core : Core) where
  abbrev all_of : List Slot → List (ℕ × Event)
  all_of slots = flat_map (queued_at core) slots

  for_none : (n : ℕ) (slots : List Slot) → AllByRecursion (λ (s : Slot). s.number ≢ n) slots → events_for n (all_of slots) ≡ []
  for_none n [] h = refl
  for_none n (s ∷ slots) h = for_other n s.number (queue_at core s.number) (all_of slots) h.0 ∙ for_none n slots h.1

  above : (n : ℕ) (slots : List Slot) → AllByRecursion (λ y. n < y) (numbers_of slots) → AllByRecursion (λ (s : Slot). s.number ≢ n) slots
  above n [] h = tt
  above n (s ∷ slots) h = (λ is. omega (arith, is, h.0), above n slots h.1)

  absent : (n : ℕ) (slots : List Slot) → numbered slots n ≡ None → AllByRecursion (λ (s : Slot). s.number ≢ n) slots
  absent n [] none = tt
  absent n (s ∷ slots) none = elim (cases_eq s.number n) as (λ _. AllByRecursion (λ (t : Slot). t.number ≢ n) (s ∷ slots)) [
    | inl is ↦ let found : ◌≡◌ {A = Option Slot} (Some s) None = rw (eq-eqb s.number n is) at none in cc
    | inr ne ↦ (ne, absent n slots (rw (ne_eqb s.number n ne) at none))
  ]

  for_one : (n : ℕ) (slots : List Slot) (s : Slot) → IsStrictlyIncreasing (numbers_of slots) → numbered slots n ≡ Some s → events_for n (all_of slots) ≡ queue_at core n
  for_one n [] s rising is = cc
  for_one n (t ∷ slots) s rising is = elim (cases_eq t.number n) as (λ _. events_for n (all_of (t ∷ slots)) ≡ queue_at core n) [
    | inl here ↦
        ap (λ (k : ℕ). events_for k (all_of (t ∷ slots))) (sym here)
        ∙ for_own t.number (queue_at core t.number) (all_of slots)
        ∙ ap (λ (es : List Event). queue_at core t.number ++ es) (for_none t.number slots (above t.number slots (above_first t.number (numbers_of slots) rising)))
        ∙ append-nil (queue_at core t.number)
        ∙ ap (queue_at core) here
    | inr there ↦
        for_other n t.number (queue_at core t.number) (all_of slots) there
        ∙ for_one n slots s (rest_rises t.number (numbers_of slots) rising) (rw (ne_eqb t.number n there) at is)
  ]

-- the events beside a number are those of its queue
pub queued_for : (core : Core) → Rises core → (n : ℕ) → events_for n (queued core) ≡ queue_at core n
queued_for core rising n = by (slot_at core n) refl
  where
    by : (o : Option Slot) → slot_at core n ≡ o → events_for n (queued core) ≡ queue_at core n
    by None none = for_none core n (slots_of core) (absent core n (slots_of core) (slot_numbered core n ∙ none)) ∙ sym (queue-none core n none)
    by (Some s) is = for_one core n (slots_of core) s rising (slot_numbered core n ∙ is)

each_block : (P : ℕ × Event → Type 0) (n : ℕ) (es : List Event) (rest : List (ℕ × Event)) → AllByRecursion (λ (e : Event). P (n, e)) es → AllByRecursion P rest → AllByRecursion P (tagged n es ++ rest)
each_block P n [] rest h k = k
each_block P n (e ∷ es) rest h k = (h.0, each_block P n es rest h.1 k)

-- what holds of the events of each queue holds of all of them
each_queued : (core : Core) (P : ℕ × Event → Type 0) → ((n : ℕ) → AllByRecursion (λ (e : Event). P (n, e)) (queue_at core n)) → (slots : List Slot) → AllByRecursion P (flat_map (queued_at core) slots)
each_queued core P each [] = tt
each_queued core P each (s ∷ slots) = each_block P s.number (queue_at core s.number) (flat_map (queued_at core) slots) (each s.number) (each_queued core P each slots)

-- 2. No event stands beside a lesser number than the one before it.

falls_not : (a : ℕ) (xs : List ℕ) → DoesNotFall xs → AllByRecursion (λ y. a ≤ y) xs → DoesNotFall (a ∷ xs)
falls_not a [] h low zero lt = absurd (omega arith)
falls_not a (x ∷ xs) h low zero lt = low.0
falls_not a xs h low (suc k) lt =
    let next : suc k + 1 ≡ suc (k + 1) = omega arith in
    let rest : slice_index xs k ≤ slice_index xs (k + 1) = h k (omega arith) in
    rw next rest

abbrev IsBehind : ℕ → List (ℕ × Event) → Type 0
IsBehind a xs = DoesNotFall (queues_of xs) × AllByRecursion (λ y. a ≤ y) (queues_of xs)

block_before : (a : ℕ) (es : List Event) (rest : List (ℕ × Event)) → IsBehind a rest → IsBehind a (tagged a es ++ rest)
block_before a [] rest h = h
block_before a (e ∷ es) rest h =
    let later = block_before a es rest h in
    (falls_not a (queues_of (tagged a es ++ rest)) later.0 later.1, (omega arith, later.1))

lower : (a b : ℕ) (xs : List ℕ) → a ≤ b → AllByRecursion (λ y. b ≤ y) xs → AllByRecursion (λ y. a ≤ y) xs
lower a b xs le h = each_map (λ y. b ≤ y) (λ y. a ≤ y) (λ y up. omega arith) xs h

queues_rise : (core : Core) (a : ℕ) (slots : List Slot) → IsStrictlyIncreasing (numbers_of slots) → AllByRecursion (λ y. a ≤ y) (numbers_of slots) → IsBehind a (flat_map (queued_at core) slots)
queues_rise core a [] rising low = (λ k lt. absurd (omega arith), tt)
queues_rise core a (s ∷ slots) rising low =
    let here : IsBehind s.number (flat_map (queued_at core) slots) = queues_rise core s.number slots (rest_rises s.number (numbers_of slots) rising)
    (each_map (λ y. s.number < y) (λ y. s.number ≤ y) (λ y up. omega arith) (numbers_of slots) (above_first s.number (numbers_of slots) rising)) in
    let all = block_before s.number (queue_at core s.number) (flat_map (queued_at core) slots) here in
    (all.0, lower a s.number (queues_of (queued_at core s ++ flat_map (queued_at core) slots)) low.0 all.1)

-- 3. Waiting slots and events.

own_counts : (es : List Event) → AllByRecursion (λ (e : Event). 1 ≤ events_of e.slot es) es
own_counts es = each_map (λ (e : Event). (n : ℕ) → e.slot ≡ n → 1 ≤ events_of n es) (λ (e : Event). 1 ≤ events_of e.slot es) (λ e h. h e.slot refl) es (by es)
  where
    by : (rest : List Event) → AllByRecursion (λ (e : Event). (n : ℕ) → e.slot ≡ n → 1 ≤ events_of n rest) rest
    by [] = tt
    by (e ∷ rest) = (
      λ n is. omega (arith, events_of-here n e rest is),
      each_map (λ (x : Event). (n : ℕ) → x.slot ≡ n → 1 ≤ events_of n rest) (λ (x : Event). (n : ℕ) → x.slot ≡ n → 1 ≤ events_of n (e ∷ rest))
          (λ x h n is. let some = h n is in omega (arith, events_more n e rest)) rest (by rest),
    )

module _ (core : Core) (whole : IsCore core) where
  queue_awaited : (h : ℕ) → AllByRecursion (λ (e : Event). IsAwaited (slots_of core) (h, e)) (queue_at core h)
  queue_awaited h =
      each_both (λ (e : Event). 1 ≤ events_of e.slot (queue_at core h)) (IsAtSlot core) (λ (e : Event). IsAwaited (slots_of core) (h, e))
      (λ e some at.
      let waits : waits_for h (slot_at core e.slot) ≡ true = some_true (waits_for h (slot_at core e.slot)) (subst (λ n. 1 ≤ n) (whole.matched.events e.slot h) some) in
      subst (λ (o : Option Slot). IsSomeAnd o (IsEventOf h e)) (sym (slot_numbered core e.slot)) (by e (slot_at core e.slot) waits at))
      (queue_at core h) (own_counts (queue_at core h)) (whole.kept.in_place h)
    where
      by : (e : Event) (o : Option Slot) → waits_for h o ≡ true → IfSome o (λ (s : Slot). e.ip ≡ s.ip) → IsSomeAnd o (IsEventOf h e)
      by e None waits at = absurd cc
      by e (Some s) waits at = record { waits = waits; ip = at }

  pub queued_awaited : AllByRecursion (IsAwaited (slots_of core)) (queued core)
  queued_awaited = each_queued core (IsAwaited (slots_of core)) queue_awaited (slots_of core)

  own_event : (n : ℕ) (s : Slot) → slot_at core n ≡ Some s → tally n (queued core) ≡ one_if (is_waiting s.state)
  own_event n s is = by (is_waiting s.state) refl
    where
      awaited : AllByRecursion (Rattle.mm_machine.proofs.Queues.AwaitedBy n (numbered (slots_of core) n)) (queued core)
      awaited = awaited_by (slots_of core) n (queued core) queued_awaited

      found : numbered (slots_of core) n ≡ Some s
      found = slot_numbered core n ∙ is

      waiting : is_waiting s.state ≡ true → (o : Option ℕ) → s.handler ≡ o → tally n (queued core) ≡ 1
      waiting waits None none = absurd (slot_has WaitsForSome core n s whole.matched.waiting is waits none)
      waiting waits (Some h) some =
          let now : waits_for h (Some s) ≡ true = waits_for-at h s waits some in
          sym (beside_one n h (numbered (slots_of core) n) (queued core) (ap (waits_for h) found ∙ now) awaited)
          ∙ ap (events_of n) (queued_for core whole.formed.rising h)
          ∙ whole.matched.events n h
          ∙ ap (λ (o : Option Slot). one_if (waits_for h o)) is
          ∙ ap one_if now

      by : (b : Bool) → is_waiting s.state ≡ b → tally n (queued core) ≡ one_if b
      by true waits = waiting waits s.handler refl
      by false rests = of_none n (numbered (slots_of core) n) (queued core) (λ h. ap (waits_for h) found ∙ waits_for-rests h s rests) awaited

  pub queued_once : AllByRecursion (HasOneEvent (queued core)) (slots_of core)
  queued_once =
      each_map (λ (s : Slot). slot_at core s.number ≡ Some s) (HasOneEvent (queued core))
      (λ s is. record { count = sym (tallied s.number (queued core)) ∙ own_event s.number s is }) (slots_of core) (slots_found core whole.formed.rising)

-- 4. The snapshot.

pages_rise : (pages : List (ℕ × List Cell)) → IsTrue (is_sorted nat_cmp pages) → IsStrictlyIncreasing (page_numbers pages)
pages_rise pages sorted k lt =
    let long = length-map pages (λ (page : ℕ × List Cell). page.0) in
    let before = get_or-map (λ (page : ℕ × List Cell). page.0) pages k (0, []) 0 (omega arith) in
    let this = get_or-map (λ (page : ℕ × List Cell). page.0) pages (k + 1) (0, []) 0 (omega arith) in
    let up = rises pages k (k + 1) (0, []) sorted (omega arith) (omega arith) in
    omega (arith, before, this, up)

queue_words : (rows : List ThreadRow) → AllByRecursion RowHoldsWords rows → (n : ℕ) → AllByRecursion EventHoldsWords (queue_of (row_in rows n))
queue_words [] h n = tt
queue_words (row ∷ rows) h n = by (eqb row.slot.number n) (queue_words rows h.1 n)
  where
    by : (b : Bool) → AllByRecursion EventHoldsWords (queue_of (row_in rows n)) → AllByRecursion EventHoldsWords (queue_of (cond b (Some row) (row_in rows n)))
    by true rest = h.0.events
    by false rest = rest

pub queues_words : (core : Core) → AllByRecursion RowHoldsWords core.rows → (n : ℕ) → AllByRecursion EventHoldsWords (queue_at core n)
unfolding queue_at
queues_words core h n = queue_words core.rows h n

pub slots_words : (rows : List ThreadRow) → AllByRecursion RowHoldsWords rows → AllByRecursion SlotHoldsWords (map (λ (row : ThreadRow). row.slot) rows)
slots_words [] h = tt
slots_words (row ∷ rows) h = (h.0.slot, slots_words rows h.1)

-- the group of each slot has a slot
pub own_group : (slots : List Slot) → AllByRecursion (λ (s : Slot). has_group slots s.group ≡ true) slots
own_group [] = tt
own_group (s ∷ slots) = (
  ap (λ b. b || has_group slots s.group) (eq-eqb s.group s.group refl),
  each_map (λ (x : Slot). has_group slots x.group ≡ true) (λ (x : Slot). has_group (s ∷ slots) x.group ≡ true)
      (λ x has. ap (λ b. eqb s.group x.group || b) has ∙ or-true (eqb s.group x.group)) slots (own_group slots),
)

pub snapshot_taken : (s : State) (outputs : List Output) → OutputsBelow s.core (slots_of s.core) 64 outputs → IsValid s
    → IsSnapshot (record { slots = slots_of s.core; events = queued s.core; outputs = outputs; pages = s.memory.pages; cycles = s.cycles })
snapshot_taken s outputs out k =
    let whole = valid_core s k in
    record {
      slots = whole.formed.rising;
      groups = out.rising;
      pages = pages_rise s.memory.pages k.state.pages.rising;
      used = out.used;
      shown = each_both (λ (x : Slot). x.group < 64) (λ (x : Slot). has_group (slots_of s.core) x.group ≡ true)
          (λ (x : Slot). has_output outputs x.group ≡ true) (λ x small has. out.shown x.group small has)
          (slots_of s.core) (each_map (IsOfVersion 2) (λ (x : Slot). x.group < 64) (λ x is. is.group) (slots_of s.core) whole.numbers) (own_group (slots_of s.core));
      events = (queues_rise s.core 0 (slots_of s.core) whole.formed.rising (from_zero (numbers_of (slots_of s.core)))).0;
      awaited = queued_awaited s.core whole;
      one_event = queued_once s.core whole;
      taken = each_map TakenBySome (λ (x : Slot). x.state ≡ Taken → x.handler ≢ None) (λ x is taken. is (ap is_taken taken)) (slots_of s.core) whole.kept.taken;
      outputs = each_map (IsOutputOf s.core) (λ (o : Output). length o.bytes ≤ 65536) (λ o is. omega (arith, ap length is, output_short s.core whole o.group)) outputs out.said;
      pending = each_both LoadsMatch (LoadsAreConsistent s.core.split) IsPending
          (λ x match kept r. record { loads = sym (loads_counted r x.pending) ∙ match.each r; zero = kept.zero r })
          (slots_of s.core) whole.matched.loads whole.kept.loads;
      turns = k.turns;
    }

pub typed_taken : (s : State) (outputs : List Output) → IsValid s → IsTyped (record { slots = slots_of s.core; events = queued s.core; outputs = outputs; pages = s.memory.pages; cycles = s.cycles })
typed_taken s outputs k = record {
  slots = each_both IsSlot SlotHoldsWords IsTypedSlot
      (λ x is words. record {
        executable = is.executable;
        well_formed = words.ip;
        registers = is.registers;
        words = words.registers;
        flags = is.flags;
        loads = words.pending;
      }) (slots_of s.core) k.state.core.slots
      (slots_words s.core.rows k.state.rows);
  events = each_queued s.core IsTypedEvent (queues_words s.core k.state.rows) (slots_of s.core);
  whole = k.state.pages.whole;
  words = k.state.cells;
}

-- 5. From the parts as they were copied.

module _ (s : State) (slots : List Slot) (events : List (ℕ × Event)) (outputs : List Output) (pages : List (ℕ × List Cell))
    (is_slots : slots ≡ slots_of s.core) (is_events : events ≡ queued s.core) (is_pages : pages ≡ s.memory.pages) (kept : ∥ IsValid s ∥₁) where
  same_parts : parts_of (slots_of s.core) (queued s.core) outputs s.memory.pages s.cycles ≡ parts_of slots events outputs pages s.cycles
  same_parts =
      sym (ap (λ (x : List Slot). parts_of x events outputs pages s.cycles) is_slots
      ∙ ap (λ (x : List (ℕ × Event)). parts_of (slots_of s.core) x outputs pages s.cycles) is_events
      ∙ ap (λ (x : List (ℕ × List Cell)). parts_of (slots_of s.core) (queued s.core) outputs x s.cycles) is_pages)

  pub copied_rules : OutputsBelow s.core slots 64 outputs → IsSnapshot (parts_of slots events outputs pages s.cycles)
  copied_rules out =
      let out_of : OutputsBelow s.core (slots_of s.core) 64 outputs = subst (λ (xs : List Slot). OutputsBelow s.core xs 64 outputs) is_slots out in
      subst IsSnapshot same_parts (∥∥₁_elim kept (hlevel props) (λ k. snapshot_taken s outputs out_of k))
