-- The machine's start is a state, fits its image, and keeps what the types keep.
use Rattle.std.proofs.Common.{◌≡◌, ℕ, zero, suc, ◌≤◌, Bool, true, false, nat_eq, if◌then◌else◌, List, [], ◌∷◌, length}
use Rattle.std.proofs.Common.{map, replicate, Option, Some, None, refl, sym, ap, ◌∙◌, subst, arith, slice_index_or}
use Rattle.std.specs.{Prelude.IfSome, List.{AllByRecursion, Sorted.IsStrictlyIncreasing}}
use Rattle.mm_model.specs.declared.slot.SlotState.{SlotState, TheVariants.{Running, Waiting, Taken, Halted}}
use Rattle.mm_model.specs.{declared.slot.Pending.Pending, Flags.one_if, Slot.{Slot, is_empty}}
use Rattle.mm_model.specs.State.{ThreadRow, row_in, slot_of, queue_of, slot_at, queue_at, output_of}
use Rattle.mm_model.specs.Image.{Image, slot_in, slot_limit, output_limit, start}
use Rattle.mm_model.specs.{Spelling.{Begins, numbers_of, IsOther, IsFresh, IsImage}, Turn.is_taken}
use Rattle.mm_model.specs.Fits.{loads_for, is_waiting, waits_for, events_of, slots_of, identity_of, SlotHoldsWords}
use Rattle.mm_model.specs.Fits.{RowHoldsWords, IsSlot, IsFormed, IsState, LoadsMatch, WaitsForSome, Matches, Fits}
use Rattle.mm_model.specs.Fits.{IsAtSlot, LoadsAreConsistent, TakenBySome, IsConsistent, IsOfVersion, HandlersAreOthers}
use Rattle.mm_model.specs.Fits.{IsCore, TurnsWithin}
use Rattle.mm_model.proofs.{CoreRows.{each_map, slot_limit-few, slot_has}, CoreSteps.waits_for-rests}

-- a slot with no event
abbrev alone : Slot → ThreadRow
alone s = record { slot = s; queue = [] }

slots_alone : (slots : List Slot) → map (λ (row : ThreadRow). row.slot) (map alone slots) ≡ slots
slots_alone [] = refl
slots_alone (s ∷ slots) = ap (λ (xs : List Slot). s ∷ xs) (slots_alone slots)

no_queue : (slots : List Slot) (n : ℕ) → queue_of (row_in (map alone slots) n) ≡ []
no_queue [] n = refl
no_queue (s ∷ slots) n = by (nat_eq s.number n) (no_queue slots n)
  where
    by : (b : Bool) → queue_of (row_in (map alone slots) n) ≡ [] → queue_of (if b then Some (alone s) else row_in (map alone slots) n) ≡ []
    by true rest = refl
    by false rest = rest

slot_alone : (slots : List Slot) (n : ℕ) → slot_of (row_in (map alone slots) n) ≡ slot_in slots n
slot_alone [] n = refl
slot_alone (s ∷ slots) n = by (nat_eq s.number n) (slot_alone slots n)
  where
    by : (b : Bool) → slot_of (row_in (map alone slots) n) ≡ slot_in slots n → slot_of (if b then Some (alone s) else row_in (map alone slots) n) ≡ (if b then Some s else slot_in slots n)
    by true rest = refl
    by false rest = rest

-- the machine starts with the image's slots
pub start_at : (i : Image) (n : ℕ) → slot_at (start i).core n ≡ slot_in i.slots n
unfolding start slot_at
start_at i n = slot_alone i.slots n

pub start_slots : (i : Image) → slots_of (start i).core ≡ i.slots
unfolding start
start_slots i = slots_alone i.slots

start_queues : (i : Image) (n : ℕ) → queue_at (start i).core n ≡ []
unfolding start queue_at
start_queues i n = no_queue i.slots n

none_set : (n r : ℕ) → slice_index_or (replicate n false) r false ≡ false
none_set zero r = refl
none_set (suc n) zero = refl
none_set (suc n) (suc r) = none_set n r

pub nothing_out : (n g : ℕ) → slice_index_or {A = List ℕ} (replicate n []) g [] ≡ []
nothing_out zero g = refl
nothing_out (suc n) zero = refl
nothing_out (suc n) (suc g) = nothing_out n g

begun : (st : SlotState) → Begins st → (is_taken st ≡ false) × (is_waiting st ≡ false)
begun Running h = (refl, refl)
begun Waiting h = absurd h
begun Taken h = absurd h
begun (Halted None) h = (refl, refl)
begun (Halted (Some c)) h = absurd h

fresh_words : (limit : ℕ) (slots : List Slot) (s : Slot) → IsFresh limit slots s → SlotHoldsWords s
fresh_words limit slots s h = record { registers = h.words; ip = h.ip; pending = subst (AllByRecursion (λ (p : Pending). Rattle.mm_word.specs.Word.IsWord p.word)) (sym h.pending) tt }

rows_alone : (slots : List Slot) → AllByRecursion SlotHoldsWords slots → AllByRecursion RowHoldsWords (map alone slots)
rows_alone [] h = tt
rows_alone (s ∷ slots) h = (record { slot = h.0; events = tt }, rows_alone slots h.1)

fresh_loads : (limit : ℕ) (slots : List Slot) (s : Slot) → IsFresh limit slots s → LoadsMatch s
unfolding is_empty
fresh_loads limit slots s h = record { each = λ r. ap (loads_for r) h.pending ∙ sym (ap one_if (ap (λ (flags : List Bool). slice_index_or flags r false) h.empty ∙ none_set 16 r)) }

fresh_kept : (limit : ℕ) (split : Bool) (slots : List Slot) (s : Slot) → IsFresh limit slots s → LoadsAreConsistent split s
unfolding is_empty
fresh_kept limit split slots s h = record { zero = λ r e. cc (e, ap (λ (flags : List Bool). slice_index_or flags r false) h.empty, none_set 16 r); mode = λ off. h.pending }

-- 1. The core of an image's slots, which are in order and fresh.

module _ (i : Image) (rising : IsStrictlyIncreasing (numbers_of i.slots)) (fresh : AllByRecursion (IsFresh (slot_limit i.version) i.slots) i.slots) where
  abbrev Fresh : Slot → Type 0
  Fresh = IsFresh (slot_limit i.version) i.slots

  each_start : (P : Slot → Type 0) → ((s : Slot) → Fresh s → P s) → AllByRecursion P (slots_of (start i).core)
  each_start P f = subst (AllByRecursion P) (sym (start_slots i)) (each_map Fresh P f i.slots fresh)

  none_waits : (n h : ℕ) → waits_for h (slot_at (start i).core n) ≡ false
  none_waits n h = by (slot_at (start i).core n) refl
    where
      by : (o : Option Slot) → slot_at (start i).core n ≡ o → waits_for h o ≡ false
      by None is = refl
      by (Some s) is = let one : Fresh s = slot_has Fresh (start i).core n s (each_start Fresh (λ s k. k)) is in waits_for-rests h s (begun s.state one.begins).1

  pub start_formed : IsFormed (start i).core
  unfolding start
  start_formed = record {
    rising = subst (λ (slots : List Slot). IsStrictlyIncreasing (numbers_of slots)) (sym (start_slots i)) rising;
    slots = each_start IsSlot (λ s k. record {
      number = let low = k.number in let few = slot_limit-few i.version in
          omega arith;
      executable = k.executable;
      registers = k.registers;
      flags = ap length k.empty;
    });
    outputs = refl;
  }

  pub start_handlers : HandlersAreOthers (start i).core
  start_handlers =
      subst (λ (slots : List Slot). AllByRecursion (λ (s : Slot). IfSome s.handler (IsOther slots s.number)) slots) (sym (start_slots i))
      (each_map Fresh (λ (s : Slot). IfSome s.handler (IsOther i.slots s.number)) (λ s k. k.handler) i.slots fresh)

  pub start_matches : Matches (start i).core
  start_matches = record {
    events = λ n g. ap (events_of n) (start_queues i g) ∙ sym (ap one_if (none_waits n g));
    waiting = each_start WaitsForSome (λ s k w. cc (w, (begun s.state k.begins).1));
    loads = each_start LoadsMatch (λ s k. fresh_loads (slot_limit i.version) i.slots s k);
  }

  pub start_kept : IsConsistent (start i).core
  unfolding start output_of
  start_kept = record {
    in_place = λ g. subst (AllByRecursion (IsAtSlot (start i).core)) (sym (start_queues i g)) tt;
    loads = each_start (LoadsAreConsistent i.split) (λ s k. fresh_kept (slot_limit i.version) i.split i.slots s k);
    taken = each_start TakenBySome (λ s k t. cc (t, (begun s.state k.begins).0));
    within = each_empty 64;
    silent = λ g none. nothing_out 64 g;
  }
    where
      each_empty : (n : ℕ) → AllByRecursion (λ (bytes : List ℕ). length bytes ≤ output_limit i.version) (replicate n [])
      each_empty zero = tt
      each_empty (suc n) = (omega arith, each_empty n)

  pub start_core : IsCore (start i).core
  unfolding start
  start_core = record {
    formed = start_formed;
    numbers = each_start (IsOfVersion 2) (λ s k. record {
      number = let low = k.number in let few = slot_limit-few i.version in omega arith;
      group = let low = k.group in let few = slot_limit-few i.version in omega arith;
    });
    handlers = start_handlers;
    matched = start_matches;
    kept = start_kept;
  }

-- 2. The state.

pub start_state : (i : Image) → IsImage i → IsState (start i)
unfolding start
start_state i h = record {
  core = start_formed i h.rising h.fresh;
  rows = rows_alone i.slots (each_map (IsFresh (slot_limit i.version) i.slots) SlotHoldsWords (λ s k. fresh_words (slot_limit i.version) i.slots s k) i.slots h.fresh);
  pages = h.paged.pages;
  cells = h.words;
}

-- the start fits the image
pub start_fits : (i : Image) → IsImage i → Fits i (start i)
unfolding start
start_fits i h = record {
  same_slots = ap (map identity_of) (start_slots i);
  version = refl;
  split = refl;
  frames = refl;
  mapped = h.paged.fitting;
  matched = start_matches i h.rising h.fresh;
}

-- no slot has taken a turn
pub start_within : (i : Image) → IsImage i → TurnsWithin (start i)
unfolding start
start_within i h =
    subst (AllByRecursion (λ (s : Slot). s.turns ≤ 0)) (sym (start_slots i))
    (each_map (IsFresh (slot_limit i.version) i.slots) (λ (s : Slot). s.turns ≤ 0) (λ s k. let none = k.turns in omega arith) i.slots h.fresh)
