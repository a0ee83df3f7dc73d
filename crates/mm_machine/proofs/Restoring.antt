-- What a core, and a state, is that is put back to the parts of a snapshot.
use Rattle.std.proofs.Common.{◌≡◌, ◌≢◌, ℕ, ◌+◌, ◌<◌, ◌≤◌, Bool, true, false, cond, eqb, List, [], ◌∷◌, length, map}
use Rattle.std.proofs.Common.{replicate, Option, Some, None, refl, sym, ap, subst, ◌∙◌, arith}
use Rattle.std.proofs.{Props.props, Math.Logic.{∥∥₁_elim, ∥∥₁_map}}
use Rattle.std.specs.{Prelude.{IfSome, IsSomeAnd, IsTrue}, List.{AllByRecursion, Sorted.IsStrictlyIncreasing}}
use Rattle.std.specs.{Ordering.nat_cmp, FinMap.is_sorted, Option.is_some}
use Rattle.mm_model.proofs.{Starts.nothing_out, Causes.some_of}
use Rattle.mm_model.proofs.CoreRows.{each_map, each_both, of_version_by, rest_rises, above_first, Rises, each_slot}
use Rattle.mm_model.proofs.CoreRows.{slot_has, other_at, other_in, identities_of, stays_by}
use Rattle.mm_model.proofs.{CoreSteps.waits_for-says, Bytes.Rising.{AreRisingFrom, sorted_from}}
use Rattle.mm_model.specs.declared.slot.SlotState.{SlotState, TheVariants.{Running, Waiting, Taken, Halted}}
use Rattle.mm_model.specs.{declared.event.Event.Event, Memory.Memory, Slot.Slot}
use Rattle.mm_model.specs.{State.{Core, State, slot_at, queue_at, output_of}, Image.output_limit, Flags.one_if}
use Rattle.mm_model.specs.{Turn.is_taken, Groups.has_group, Spelling.{numbers_of, IsOther}}
use Rattle.mm_model.specs.Fits.{waits_for, events_of, identity_of, slots_of, IsSlot, IsFormed, LoadsMatch, WaitsForSome}
use Rattle.mm_model.specs.Fits.{Matches, IsAtSlot, LoadsAreConsistent, TakenBySome, IsConsistent, IsOfVersion}
use Rattle.mm_model.specs.Fits.{HandlersAreOthers, IsCore, EventHoldsWords, RowHoldsWords}
use Rattle.mm_model.specs.Typed.{IsTypedSlot}
use Rattle.mm_word.specs.declared.word.Cell.{Cell}
use Rattle.mm_thread.specs.{Output.Output, Parts.{events_for, row_with, core_of, AreParts}}
use Rattle.mm_thread.proofs.{Assigned.{queue-with, slots-with}, Sound.queue-none}
use Rattle.mm_machine.specs.Validity.{IsValid}
use Rattle.mm_machine.specs.Snapshot.{Parts, numbered, page_numbers, IsEventOf, IsAwaited, IsPending, IsSnapshot}
use Rattle.mm_machine.specs.Snapshot.{IsTypedEvent, IsTyped, CanRestore, restored}
use Rattle.mm_machine.proofs.{Keeping.valid_core, Pendings.loads_counted}
use Rattle.mm_machine.proofs.Queues.{slot_numbered, matched, waits_handled}
use Rattle.mm_machine.proofs.Outputs.{outputs_count, outputs_within, nothing_within, output_untouched, outputs_given}
use Rattle.mm_machine.proofs.{Outputs.group_has, Steps.from_zero}

-- 1. Lists.

each_for : (P : Event → Type 0) (n : ℕ) (xs : List (ℕ × Event)) → AllByRecursion (λ (x : ℕ × Event). P x.1) xs → AllByRecursion P (events_for n xs)
each_for P n [] h = tt
each_for P n (x ∷ xs) h = by (eqb x.0 n) (each_for P n xs h.1)
  where
    by : (b : Bool) → AllByRecursion P (events_for n xs) → AllByRecursion P (cond b (x.1 ∷ events_for n xs) (events_for n xs))
    by true rest = (h.0, rest)
    by false rest = rest

rising_from : (least : ℕ) (pages : List (ℕ × List Cell)) → IsStrictlyIncreasing (page_numbers pages) → AllByRecursion (λ y. least ≤ y) (page_numbers pages) → AreRisingFrom least pages
rising_from least [] rising low = tt
rising_from least (page ∷ pages) rising low = (
  low.0,
  rising_from (page.0 + 1) pages (rest_rises page.0 (page_numbers pages) rising)
      (each_map (λ y. page.0 < y) (λ y. page.0 + 1 ≤ y) (λ y up. omega arith) (page_numbers pages) (above_first page.0 (page_numbers pages) rising)),
)

pub pages_sorted : (pages : List (ℕ × List Cell)) → IsStrictlyIncreasing (page_numbers pages) → IsTrue (is_sorted nat_cmp pages)
pages_sorted pages rising = sorted_from 0 pages (rising_from 0 pages rising (from_zero (page_numbers pages)))

-- 2. The core.

-- what is kept of the core that is put back
pub record IsHost (core : Core) : Type 0 where
  pub rising : Rises core
  pub numbers : AllByRecursion (IsOfVersion 2) (slots_of core)
  pub handlers : AllByRecursion (λ (s : Slot). IfSome s.handler (λ h. (h ≢ s.number) × (is_some (slot_at core h) ≡ true))) (slots_of core)
  pub outputs : length core.outputs ≡ 64
  pub silent : (g : ℕ) → has_group (slots_of core) g ≡ false → output_of core g ≡ []

host_of : (core : Core) → IsCore core → IsHost core
host_of core whole = record {
  rising = whole.formed.rising;
  numbers = whole.numbers;
  handlers = each_map (λ (s : Slot). IfSome s.handler (IsOther (slots_of core) s.number)) (λ (s : Slot). IfSome s.handler (λ h. (h ≢ s.number) × (is_some (slot_at core h) ≡ true)))
      (λ s other. by s.number s.handler other) (slots_of core) whole.handlers;
  outputs = whole.formed.outputs;
  silent = whole.kept.silent;
}
  where
    by : (n : ℕ) (o : Option ℕ) → IfSome o (IsOther (slots_of core) n) → IfSome o (λ h. (h ≢ n) × (is_some (slot_at core h) ≡ true))
    by n None k = tt
    by n (Some h) k = let other = other_at core whole.formed.rising n h k in (other.0, ap is_some other.1.1)

pub hosts : (core : Core) → ∥ IsCore core ∥₁ → IsHost core
hosts core whole = ∥∥₁_elim whole (hlevel props) (λ k. host_of core k)

pub valid_hosts : (s : State) → ∥ IsValid s ∥₁ → IsHost s.core
valid_hosts s kept = ∥∥₁_elim kept (hlevel props) (λ k. host_of s.core (valid_core s k))

module _ (old : Core) (p : Parts) (was : IsHost old) (rules : IsSnapshot p) (typed : IsTyped p) (same : map identity_of p.slots ≡ map identity_of (slots_of old)) where
  abbrev core : Core
  core = core_of old.version old.split p.slots p.events p.outputs

  pub slots_are : slots_of core ≡ p.slots
  slots_are = slots-with p.events p.slots

  pub identities : identities_of core ≡ identities_of old
  identities = ap (map identity_of) slots_are ∙ same

  pub rising : Rises core
  rising = subst (λ (slots : List Slot). IsStrictlyIncreasing (numbers_of slots)) (sym slots_are) rules.slots

  pub at : (n : ℕ) → numbered p.slots n ≡ slot_at core n
  at n = sym (ap (λ (slots : List Slot). numbered slots n) slots_are) ∙ slot_numbered core n

  numbers : AllByRecursion (IsOfVersion 2) p.slots
  numbers = of_version_by 2 p.slots (slots_of old) same was.numbers

  groups_small : AllByRecursion (λ (o : Output). o.group < 64) p.outputs
  groups_small =
      each_map (λ (o : Output). has_group p.slots o.group ≡ true) (λ (o : Output). o.group < 64)
      (λ o has. group_has (λ g. g < 64) p.slots o.group (each_map (IsOfVersion 2) (λ (s : Slot). s.group < 64) (λ s is. is.group) p.slots numbers) has) p.outputs rules.used

  handlers : HandlersAreOthers core
  handlers =
      each_slot (λ (s : Slot). IfSome s.handler (IsOther (slots_of core) s.number)) core rising
      (λ n s is.
      let before = stays_by core old n s (sym identities) is in
      subst (λ (i : ℕ × ℕ × Option ℕ). IfSome i.2 (IsOther (slots_of core) i.0)) before.same
      (by before.now.handler before.now.number (slot_has (λ (t : Slot). IfSome t.handler (λ h. (h ≢ t.number) × (is_some (slot_at old h) ≡ true))) old n before.now was.handlers before.is)))
    where
      by : (o : Option ℕ) (n : ℕ) → IfSome o (λ h. (h ≢ n) × (is_some (slot_at old h) ≡ true)) → IfSome o (IsOther (slots_of core) n)
      by None n k = tt
      by (Some g) n k =
          let some = some_of (slot_at old g) k.1 in
          let there = stays_by old core g some.0 identities some.1 in
          other_in core n g there.now k.0 there.is

  -- no slot waits for a number that no slot has
  pub unwaited : (n h : ℕ) → slot_at core h ≡ None → waits_for h (slot_at core n) ≡ false
  unwaited n h none = by (slot_at core n) refl (waits_for h (slot_at core n)) refl
    where
      by : (o : Option Slot) → slot_at core n ≡ o → (b : Bool) → waits_for h (slot_at core n) ≡ b → b ≡ false
      by o is false waits = refl
      by None is true waits = let no = ap (waits_for h) is in cc
      by (Some s) is true waits =
          let says = waits_for-says h s (sym (ap (waits_for h) is) ∙ waits) in
          let other : IfSome s.handler (IsOther (slots_of core) s.number) = slot_has (λ (t : Slot). IfSome t.handler (IsOther (slots_of core) t.number)) core n s handlers is in
          let there = other_at core rising s.number h (subst (λ (o : Option ℕ). IfSome o (IsOther (slots_of core) s.number)) says.1 other) in
          let found = there.1.1 in
          cc

  pub core_matched : (n h : ℕ) → events_of n (queue_at core h) ≡ one_if (waits_for h (slot_at core n))
  unfolding queue_at slot_at
  core_matched n h = by (slot_at core h) refl
    where
      by : (o : Option Slot) → slot_at core h ≡ o → events_of n (queue_at core h) ≡ one_if (waits_for h (slot_at core n))
      by None none = ap (events_of n) (queue-none core h none) ∙ sym (ap one_if (unwaited n h none))
      by (Some s) is =
          ap (events_of n) (queue-with p.events h p.slots s is)
          ∙ matched p.slots p.events rules.awaited rules.one_event n h
          ∙ ap (λ (o : Option Slot). one_if (waits_for h o)) (at n)

  events_placed : AllByRecursion (λ (x : ℕ × Event). IsAtSlot core x.1) p.events
  events_placed =
      each_map (IsAwaited p.slots) (λ (x : ℕ × Event). IsAtSlot core x.1)
      (λ x h. subst (λ (o : Option Slot). IfSome o (λ (s : Slot). x.1.ip ≡ s.ip)) (at x.1.slot) (by x (numbered p.slots x.1.slot) h)) p.events rules.awaited
    where
      by : (x : ℕ × Event) (o : Option Slot) → IsSomeAnd o (IsEventOf x.0 x.1) → IfSome o (λ (s : Slot). x.1.ip ≡ s.ip)
      by x None h = tt
      by x (Some s) h = h.ip

  core_in_place : (h : ℕ) → AllByRecursion (IsAtSlot core) (queue_at core h)
  unfolding queue_at slot_at
  core_in_place h = by (slot_at core h) refl
    where
      by : (o : Option Slot) → slot_at core h ≡ o → AllByRecursion (IsAtSlot core) (queue_at core h)
      by None none = subst (AllByRecursion (IsAtSlot core)) (sym (queue-none core h none)) tt
      by (Some s) is = subst (AllByRecursion (IsAtSlot core)) (sym (queue-with p.events h p.slots s is)) (each_for (IsAtSlot core) h p.events events_placed)

  core_silent : (g : ℕ) → has_group (slots_of core) g ≡ false → output_of core g ≡ []
  unfolding output_of
  core_silent g none =
      let no : has_group p.slots g ≡ false = sym (ap (λ (slots : List Slot). has_group slots g) slots_are) ∙ none in
      output_untouched p.outputs (replicate 64 []) g
      (each_map (λ (o : Output). has_group p.slots o.group ≡ true) (λ (o : Output). o.group ≢ g) (λ o yes is. let both = ap (has_group p.slots) is in cc) p.outputs rules.used)
      ∙ nothing_out 64 g

  pub core_given : AllByRecursion (λ (o : Output). output_of core o.group ≡ o.bytes) p.outputs
  unfolding output_of
  core_given = outputs_given p.outputs (replicate 64 []) rules.groups groups_small

  module _ (mode : old.split ≡ false → AllByRecursion (λ (s : Slot). s.pending ≡ []) p.slots) (short : AllByRecursion (λ (o : Output). length o.bytes ≤ output_limit old.version) p.outputs) where
    on_slots : (P : Slot → Type 0) → AllByRecursion P p.slots → AllByRecursion P (slots_of core)
    on_slots P h = subst (AllByRecursion P) (sym slots_are) h

    core_waiting : (n : ℕ) (s : Slot) → slot_at core n ≡ Some s → WaitsForSome s
    core_waiting n s is w = waits_handled p.slots p.events rules.awaited rules.one_event n s (at n ∙ is) w

    core_taken : AllByRecursion TakenBySome p.slots
    core_taken = each_map (λ (t : Slot). t.state ≡ Taken → t.handler ≢ None) TakenBySome (λ s given taken. given (is_taken-says s.state taken)) p.slots rules.taken
      where
        is_taken-says : (state : SlotState) → is_taken state ≡ true → state ≡ Taken
        is_taken-says Running e = cc
        is_taken-says Waiting e = cc
        is_taken-says Taken e = refl
        is_taken-says (Halted cause) e = cc

    modes : (split : Bool) → old.split ≡ split → AllByRecursion (λ (s : Slot). split ≡ false → s.pending ≡ []) p.slots
    modes true is = each_map IsPending (λ (s : Slot). true ≡ false → s.pending ≡ []) (λ s k off. cc) p.slots rules.pending
    modes false is = each_map (λ (s : Slot). s.pending ≡ []) (λ (s : Slot). false ≡ false → s.pending ≡ []) (λ s none off. none) p.slots (mode is)

    core_formed : IsFormed core
    core_formed = record {
      rising = rising;
      slots = on_slots IsSlot
          (each_both (IsOfVersion 2) IsTypedSlot IsSlot
          (λ s low typed. record { number = low.number; executable = typed.executable; registers = typed.registers; flags = typed.flags }) p.slots numbers typed.slots);
      outputs = outputs_count p.outputs (replicate 64 []);
    }

    pub core_matches : Matches core
    core_matches = record {
      events = core_matched;
      waiting = each_slot WaitsForSome core rising core_waiting;
      loads = on_slots LoadsMatch (each_map IsPending LoadsMatch (λ s pending. record { each = λ r. loads_counted r s.pending ∙ (pending r).loads }) p.slots rules.pending);
    }

    pub core_consistent : IsConsistent core
    core_consistent = record {
      in_place = core_in_place;
      loads = on_slots (LoadsAreConsistent old.split)
          (each_both IsPending (λ (s : Slot). old.split ≡ false → s.pending ≡ []) (LoadsAreConsistent old.split)
          (λ s pending off. record { zero = λ r empty. (pending r).zero empty; mode = off }) p.slots rules.pending
          (modes old.split refl));
      taken = on_slots TakenBySome core_taken;
      within = outputs_within (output_limit old.version) p.outputs (replicate 64 []) short (nothing_within (output_limit old.version) 64);
      silent = core_silent;
    }

    pub core_whole : IsCore core
    core_whole = record { formed = core_formed; numbers = on_slots (IsOfVersion 2) numbers; handlers = handlers; matched = core_matches; kept = core_consistent }

    pub are_parts : AreParts old p.slots p.events p.outputs
    are_parts = record { whole = core_whole; same = same; given = core_given }

-- 3. The state.

rows_words : (events : List (ℕ × Event)) → AllByRecursion IsTypedEvent events → (slots : List Slot) → AllByRecursion IsTypedSlot slots → AllByRecursion RowHoldsWords (map (row_with events) slots)
rows_words events good [] h = tt
rows_words events good (s ∷ slots) h = (
  record {
    slot = record { registers = h.0.words; ip = h.0.well_formed; pending = h.0.loads };
    events = each_for
        EventHoldsWords s.number events good;
  },
  rows_words events good slots h.1,
)

module _ (s : State) (p : Parts) (rules : IsSnapshot p) (typed : IsTyped p) (can : CanRestore s p) where
  restored_keeps : IsValid s → IsValid (restored s p)
  restored_keeps k =
      let host = host_of s.core (valid_core s k) in
      let whole = core_whole s.core p host rules typed can.slots can.mode can.outputs in
      record {
        image = k.image;
        is_image = k.is_image;
        state = record {
          core = whole.formed;
          rows = rows_words p.events typed.events p.slots typed.slots;
          pages = record { rising = pages_sorted p.pages rules.pages; whole = typed.whole };
          cells = typed.words;
        };
        fits = record {
          same_slots = identities s.core p host rules typed can.slots ∙ k.fits.same_slots;
          version = k.fits.version;
          split = k.fits.split;
          frames = k.fits.frames;
          mapped = can.pages;
          matched = whole.matched;
        };
        types = whole.kept;
        turns = subst (AllByRecursion (λ (x : Slot). x.turns ≤ p.cycles)) (sym (slots_are s.core p host rules typed can.slots)) rules.turns;
      }

  pub restored_valid : (t : State) → t ≡ restored s p → ∥ IsValid s ∥₁ → ∥ IsValid t ∥₁
  restored_valid t is kept = ∥∥₁_map kept (λ k. subst IsValid (sym is) (restored_keeps k))

-- 4. From the parts as they were read.

module _ (s : State) (p : Parts) (slots : List Slot) (events : List (ℕ × Event)) (outputs : List Output)
    (is_slots : slots ≡ p.slots) (is_events : events ≡ p.events) (is_outputs : outputs ≡ p.outputs) where
  pub parts_read : IsSnapshot p → IsTyped p → CanRestore s p → ∥ IsValid s ∥₁ → AreParts s.core slots events outputs
  parts_read rules typed can kept =
      subst (λ (xs : List Slot). AreParts s.core xs events outputs) (sym is_slots)
      (subst (λ (xs : List (ℕ × Event)). AreParts s.core p.slots xs outputs) (sym is_events)
      (subst (λ (xs : List Output). AreParts s.core p.slots p.events xs) (sym is_outputs)
      (are_parts s.core p (valid_hosts s kept) rules typed can.slots can.mode can.outputs)))

  pub state_read : (core : Core) (memory : Memory) (pages : List (ℕ × List Cell)) (cycles : ℕ)
      → core ≡ core_of s.core.version s.core.split slots events outputs → memory ≡ record { pages = pages; frames = s.memory.frames } → pages ≡ p.pages → cycles ≡ p.cycles
      → record { core = core; memory = memory; cycles = cycles } ≡ restored s p
  state_read core memory pages cycles is_core is_memory is_pages is_cycles = cc
