-- What is put back is the state whose snapshot was given.
use Rattle.std.proofs.Common.{◌≡◌, ◌≢◌, ℕ, suc, ◌+◌, ◌<◌, ◌≤◌, inl, inr, true, List, [], ◌∷◌, ◌++◌, map, Option, Some}
use Rattle.std.proofs.{Common.{None, refl, sym, ap, subst, ◌∙◌, arith}, lemmas.Bool.{cases_eq, eq-eqb, ne_eqb}}
use Rattle.std.specs.{Prelude.slice_index, Option.is_some, List.{AllByRecursion, flat_map, Sorted.IsStrictlyIncreasing}}
use Rattle.mm_model.specs.{declared.event.Event.Event, Slot.Slot, State.{Core, State, slot_at, queue_at}}
use Rattle.mm_model.specs.{Spelling.numbers_of, Fits.{waits_for, slots_of}}
use Rattle.mm_model.proofs.{Causes.some_of, CoreRows.{each_map, rest_rises, above_first, slots_found, numbers_above}}
use Rattle.mm_thread.{specs.{Output.Output, Parts.{events_for, core_of}}, proofs.Assigned.queue-with}
use Rattle.mm_machine.specs.Validity.{IsValid}
use Rattle.mm_machine.specs.Snapshot.{Parts, numbered, queues_of, IsAwaited, DoesNotFall, IsSnapshot, IsTyped}
use Rattle.mm_machine.specs.Snapshot.{IsOutputOf, IsSnapshotOf, CanRestore, queued_at, restored}
use Rattle.mm_machine.proofs.Queues.{numbered_has, awaits}
use Rattle.mm_machine.proofs.Restoring.{IsHost, valid_hosts, slots_are, at, rising, unwaited, core_given}

-- 1. Events that do not fall are those of the queues, slot by slot.

abbrev block : List (ℕ × Event) → Slot → List (ℕ × Event)
block xs s = map (λ (e : Event). (s.number, e)) (events_for s.number xs)

abbrev blocks : List (ℕ × Event) → List Slot → List (ℕ × Event)
blocks xs slots = flat_map (block xs) slots

no_blocks : (slots : List Slot) → blocks [] slots ≡ []
no_blocks [] = refl
no_blocks (s ∷ slots) = no_blocks slots

-- an event adds nothing to the blocks of other slots
other_blocks : (x : ℕ × Event) (xs : List (ℕ × Event)) (slots : List Slot) → AllByRecursion (λ (s : Slot). x.0 ≢ s.number) slots → blocks (x ∷ xs) slots ≡ blocks xs slots
other_blocks x xs [] other = refl
other_blocks x xs (s ∷ slots) other = rw (ne_eqb x.0 s.number other.0) (ap (λ (rest : List (ℕ × Event)). block xs s ++ rest) (other_blocks x xs slots other.1))

none_at : (n : ℕ) (xs : List (ℕ × Event)) → AllByRecursion (λ y. n < y) (queues_of xs) → events_for n xs ≡ []
none_at n [] above = refl
none_at n (x ∷ xs) above = rw (ne_eqb x.0 n (λ is. omega (arith, is, above.0))) (none_at n xs above.1)

-- an event that stands before all others begins the blocks
first_block : (x : ℕ × Event) (xs : List (ℕ × Event)) (slots : List Slot) (s : Slot) → IsStrictlyIncreasing
    (numbers_of slots) → numbered slots x.0 ≡ Some s → AllByRecursion (λ y. x.0 ≤ y) (queues_of xs)
    → blocks (x ∷ xs) slots ≡ x ∷ blocks xs slots
first_block x xs [] s up is low = cc
first_block x xs (t ∷ slots) s up is low =
    let above = numbers_above t.number slots (above_first t.number (numbers_of slots) up) in
    elim (cases_eq t.number x.0) as (λ _. blocks (x ∷ xs) (t ∷ slots) ≡ x ∷ blocks xs (t ∷ slots)) [
      | inl here ↦
          rw (eq-eqb x.0 t.number (sym here))
          (ap (λ (n : ℕ). (n, x.1) ∷ (block xs t ++ blocks (x ∷ xs) slots)) here
          ∙ ap (λ (rest : List (ℕ × Event)). x ∷ (block xs t ++ rest))
          (other_blocks x xs slots (each_map (λ (u : Slot). t.number < u.number) (λ (u : Slot). x.0 ≢ u.number)
          (λ u more same. omega (arith, here, same, more)) slots above)))
      | inr there ↦
          let later : numbered slots x.0 ≡ Some s = rw (ne_eqb t.number x.0 there) at is in
          let at_s = numbered_has (λ (u : Slot). t.number < u.number) slots x.0 s above later in
          let less : t.number < x.0 = let more = at_s.0 in let same = at_s.1 in omega arith in
          let none = none_at t.number xs (each_map (λ y. x.0 ≤ y) (λ y. t.number < y) (λ y more. omega arith) (queues_of xs) low) in
          rw (ne_eqb x.0 t.number (λ same. there (sym same)), none) (first_block x xs slots s (rest_rises t.number (numbers_of slots) up) later low)
    ]

fall_not : (a : ℕ) (ys : List ℕ) → DoesNotFall (a ∷ ys) → DoesNotFall ys
fall_not a ys h k lt =
    let next : suc k + 1 ≡ suc (k + 1) = omega arith in
    let before : slice_index (a ∷ ys) (suc k) ≤ slice_index (a ∷ ys) (suc k + 1) = h (suc k) (omega arith) in
    rw next at before

low_first : (a : ℕ) (ys : List ℕ) → DoesNotFall (a ∷ ys) → AllByRecursion (λ y. a ≤ y) ys
low_first a [] h = tt
low_first a (y ∷ ys) h =
    let first : a ≤ y = h 0 (omega arith) in
    (first, each_map (λ z. y ≤ z) (λ z. a ≤ z) (λ z more. omega arith) ys (low_first y ys (fall_not a (y ∷ ys) h)))

in_blocks : (xs : List (ℕ × Event)) (slots : List Slot) → IsStrictlyIncreasing (numbers_of slots)
    → DoesNotFall (queues_of xs) → AllByRecursion (λ (x : ℕ × Event). is_some (numbered slots x.0) ≡ true) xs
    → xs ≡ blocks xs slots
in_blocks [] slots up h there = sym (no_blocks slots)
in_blocks (x ∷ xs) slots up h there =
    let slot = some_of (numbered slots x.0) there.0 in
    ap (λ (rest : List (ℕ × Event)). x ∷ rest) (in_blocks xs slots up (fall_not x.0 (queues_of xs) h) there.1)
    ∙ sym (first_block x xs slots slot.0 up slot.1 (low_first x.0 (queues_of xs) h))

same_pieces : (f g : Slot → List (ℕ × Event)) (slots : List Slot) → AllByRecursion (λ (s : Slot). f s ≡ g s) slots → flat_map f slots ≡ flat_map g slots
same_pieces f g [] h = refl
same_pieces f g (s ∷ slots) h = ap (λ (xs : List (ℕ × Event)). xs ++ flat_map f slots) h.0 ∙ ap (λ (xs : List (ℕ × Event)). g s ++ xs) (same_pieces f g slots h.1)

-- 2. The state.

module _ (s : State) (p : Parts) (rules : IsSnapshot p) (typed : IsTyped p) (can : CanRestore s p) (host : IsHost s.core) where
  abbrev core : Core
  core = core_of s.core.version s.core.split p.slots p.events p.outputs

  queues_there : AllByRecursion (λ (x : ℕ × Event). is_some (numbered p.slots x.0) ≡ true) p.events
  queues_there =
      each_map (IsAwaited p.slots) (λ (x : ℕ × Event). is_some (numbered p.slots x.0) ≡ true)
      (λ x h. ap is_some (at s.core p host rules typed can.slots x.0) ∙ by x (awaits (numbered p.slots x.1.slot) x h) (slot_at core x.0) refl) p.events rules.awaited
    where
      by : (x : ℕ × Event) → waits_for x.0 (numbered p.slots x.1.slot) ≡ true → (o : Option Slot) → slot_at core x.0 ≡ o → is_some (slot_at core x.0) ≡ true
      by x waits None none =
          let no = ap (waits_for x.0) (at s.core p host rules typed can.slots x.1.slot) ∙ unwaited s.core p host rules typed can.slots x.1.slot x.0 none in
          absurd cc
      by x waits (Some t) is = ap is_some is

  own_blocks : AllByRecursion (λ (t : Slot). block p.events t ≡ queued_at core t) (slots_of core)
  unfolding slot_at queue_at
  own_blocks =
      each_map (λ (t : Slot). slot_at core t.number ≡ Some t) (λ (t : Slot). block p.events t ≡ queued_at core t)
      (λ t is. ap (λ (es : List Event). map (λ (e : Event). (t.number, e)) es)
      (sym (queue-with p.events t.number p.slots t is))) (slots_of core)
      (slots_found core (rising s.core p host rules typed can.slots))

  pub shows : IsSnapshotOf (restored s p) p
  shows = record {
    rules = rules;
    slots = sym (slots_are s.core p host rules typed can.slots);
    events = in_blocks p.events p.slots rules.slots rules.events queues_there
        ∙ ap (blocks p.events) (sym (slots_are s.core p host rules typed can.slots))
        ∙ same_pieces (block p.events) (queued_at core) (slots_of core) own_blocks;
    outputs = each_map (λ (o : Output). Rattle.mm_model.specs.State.output_of core o.group ≡ o.bytes) (IsOutputOf core) (λ o is. sym is) p.outputs (core_given s.core p host rules typed can.slots);
    pages = refl;
    cycles = refl;
  }

pub shown_back : (s t : State) (p : Parts) → t ≡ restored s p → IsSnapshot p → IsTyped p → CanRestore s p → ∥ IsValid s ∥₁ → IsSnapshotOf t p
shown_back s t p is rules typed can kept = subst (λ (u : State). IsSnapshotOf u p) (sym is) (shows s p rules typed can (valid_hosts s kept))
