-- Slots and events of the states of an image can be kept as numbers.
use Rattle.std.proofs.Common.{◌≡◌, ℕ, ◌<◌, List, [], ◌∷◌, map, Option, Some, None, refl, sym, ap, ◌∙◌, subst, arith, true}
use Rattle.std.specs.{Prelude.{◌≢◌, zip}, List.{AllByRecursion, Sorted.IsStrictlyIncreasing}}
use Rattle.mm_word.specs.Word.{IsWord}
use Rattle.mm_model.specs.{declared.{event.Event.Event, slot.Pending.Pending}, Slot.Slot, Image.{Image, slot_limit}}
use Rattle.mm_model.specs.State.{ThreadRow, Core, State, slot_at, queue_at, row_in, queue_of}
use Rattle.mm_model.specs.Spelling.{IsFresh, IsImage, numbers_of}
use Rattle.mm_model.specs.Fits.{IsSlot, slots_of, IsFormed, SlotHoldsWords, EventHoldsWords, RowHoldsWords, LoadsMatch, waits_for, Matches, identity_of}
use Rattle.mm_model.proofs.CoreRows.{each_map, each_both, row_here, row_later, rest_rises, above_first, slot_at-number, slot_has}
use Rattle.mm_model.proofs.Shortness.{pending_short, loads_small, queued_at}
use Rattle.mm_config.specs.{Configurations.uncounted_slot, States.IsStateOf}
use Rattle.mm_config.proofs.{WordForms.IsLoad, SlotForms.IsKeepable, EventForms.IsKeptEvent}

-- 1. Slots.

-- what is known of a slot of a state
record IsHeld (s : Slot) : Type 0 where
  slot : IsSlot s
  words : SlotHoldsWords s
  loads : LoadsMatch s

keepable : (limit : ℕ) (all : List Slot) (b s : Slot) → identity_of s ≡ identity_of b → IsFresh limit all b → IsHeld s → IsKeepable b (uncounted_slot s)
keepable limit all b s same f h = record {
  number = sym (ap (λ (x : ℕ × ℕ × Option ℕ). x.0) same);
  group = sym (ap (λ (x : ℕ × ℕ × Option ℕ). x.1) same);
  handler = sym (ap (λ (x : ℕ × ℕ × Option ℕ). x.2) same);
  base_count = f.registers;
  count = h.slot.registers;
  base_words = f.words;
  words = h.words.registers;
  base_ip = f.ip;
  ip = h.words.ip;
  fetches = h.slot.executable;
  flags = h.slot.flags;
  few = pending_short s h.slot h.loads;
  loads = each_both (λ (p : Pending). p.reg < 16) (λ (p : Pending). IsWord p.word) IsLoad (λ p low word. record { reg = low; word = word }) s.pending (loads_small s h.slot h.loads) h.words.pending;
}

abbrev pub IsKeepablePair : Slot × Slot → Type 0
IsKeepablePair p = IsKeepable p.0 (uncounted_slot p.1)

keepables : (limit : ℕ) (all base slots : List Slot) → map identity_of slots ≡ map identity_of base
    → AllByRecursion (IsFresh limit all) base → AllByRecursion IsHeld slots → AllByRecursion IsKeepablePair (zip base slots)
keepables limit all [] slots same f h = tt
keepables limit all (b ∷ base) [] same f h = tt
keepables limit all (b ∷ base) (s ∷ slots) same f h =
    let head : identity_of s ≡ identity_of b = cc in
    let rest : map identity_of slots ≡ map identity_of base = cc in
    (keepable limit all b s head f.0 h.0, keepables limit all base slots rest f.1 h.1)

slots_words : (rows : List ThreadRow) → AllByRecursion RowHoldsWords rows → AllByRecursion SlotHoldsWords (map (λ (row : ThreadRow). row.slot) rows)
slots_words [] h = tt
slots_words (row ∷ rows) h = (h.0.slot, slots_words rows h.1)

pub slots_kept : (i : Image) (s : State) → IsImage i → IsStateOf i s → AllByRecursion IsKeepablePair (zip i.slots (slots_of s.core))
slots_kept i s img h =
    keepables (slot_limit i.version) i.slots i.slots (slots_of s.core) h.fits.same_slots img.fresh
    (each_both (λ (x : Slot). IsSlot x × SlotHoldsWords x) LoadsMatch IsHeld (λ x k m. record { slot = k.0; words = k.1; loads = m }) (slots_of s.core)
    (each_both IsSlot SlotHoldsWords (λ (x : Slot). IsSlot x × SlotHoldsWords x) (λ x a b. (a, b)) (slots_of s.core) h.state.core.slots (slots_words s.core.rows h.state.rows))
    h.fits.matched.loads)

-- 2. Events.

-- the slot of a queued event has one of 64 numbers
waiting_small : (core : Core) (h n : ℕ) → IsFormed core → (o : Option Slot) → slot_at core n ≡ o → waits_for h o ≡ true → n < 64
waiting_small core h n formed None at w = cc
waiting_small core h n formed (Some s) at w =
    let number = slot_at-number core n s at in
    let low = (slot_has IsSlot core n s formed.slots at).number in
    omega (arith, number, low)

queue_small : (core : Core) → IsFormed core → Matches core → (g : ℕ) → AllByRecursion (λ (e : Event). e.slot < 64) (queue_at core g)
queue_small core formed match g =
    each_map (λ (e : Event). waits_for g (slot_at core e.slot) ≡ true) (λ (e : Event). e.slot < 64)
    (λ e w. waiting_small core g e.slot formed (slot_at core e.slot) refl w) (queue_at core g) (queued_at core match g)

rows_above : (x : ℕ) (rows : List ThreadRow) → AllByRecursion (λ y. x < y) (numbers_of (map (λ (row : ThreadRow). row.slot) rows)) → AllByRecursion (λ (row : ThreadRow). x < row.slot.number) rows
rows_above x [] h = tt
rows_above x (row ∷ rows) h = (h.0, rows_above x rows h.1)

-- where numbers rise, each queue is found at its slot's number
queues_found : (rows : List ThreadRow) → IsStrictlyIncreasing (numbers_of (map (λ (row : ThreadRow). row.slot) rows))
    → AllByRecursion (λ (row : ThreadRow). queue_of (row_in rows row.slot.number) ≡ row.queue) rows
queues_found [] h = tt
queues_found (row ∷ rows) h =
    let numbers = numbers_of (map (λ (r : ThreadRow). r.slot) rows) in (
      ap queue_of (row_here row rows row.slot.number refl),
      each_both (λ (r : ThreadRow). row.slot.number < r.slot.number) (λ (r : ThreadRow). queue_of (row_in rows r.slot.number) ≡ r.queue)
          (λ (r : ThreadRow). queue_of (row_in (row ∷ rows) r.slot.number) ≡ r.queue)
          (λ r lt is. let ne : row.slot.number ≢ r.slot.number = omega (arith, lt) in ap queue_of (row_later row rows r.slot.number ne) ∙ is) rows
          (rows_above row.slot.number rows (above_first row.slot.number numbers h)) (queues_found rows (rest_rises row.slot.number numbers h)),
    )

pub queues_kept : (i : Image) (s : State) → IsStateOf i s → AllByRecursion (λ (row : ThreadRow). AllByRecursion IsKeptEvent row.queue) s.core.rows
unfolding queue_at
queues_kept i s h =
    each_both (λ (row : ThreadRow). queue_of (row_in s.core.rows row.slot.number) ≡ row.queue) RowHoldsWords (λ (row : ThreadRow). AllByRecursion IsKeptEvent row.queue)
    (λ row found words.
    each_both (λ (e : Event). e.slot < 64) EventHoldsWords IsKeptEvent (λ e low holds. record { slot = low; words = holds }) row.queue
    (subst (AllByRecursion (λ (e : Event). e.slot < 64)) found (queue_small s.core h.state.core h.fits.matched row.slot.number)) words.events)
    s.core.rows (queues_found s.core.rows h.state.core.rising) h.state.rows
