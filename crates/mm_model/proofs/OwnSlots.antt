-- The slots of some groups are those of an image, where their handlers are among them.
use Rattle.std.proofs.Common.{◌≡◌, ℕ, zero, suc, ◌+◌, ◌<◌, ◌≤◌, inl, inr, Bool, true, List, [], ◌∷◌, length, Option}
use Rattle.std.proofs.Common.{Some, None, refl, sym, ap, ◌∙◌, subst, arith}
use Rattle.std.proofs.lemmas.{Bool.cases_Bool, List.Elements.{recursion_from_All, All-contains_itself}}
use Rattle.std.specs.Prelude.{Contains, IfSome, slice_index}
use Rattle.std.specs.List.{AllByRecursion, filter, Sorted.IsStrictlyIncreasing}
use Rattle.mm_model.specs.{Memory.{Memory, IsPaged}, Slot.Slot, Image.{Image, slot_limit}}
use Rattle.mm_model.specs.Groups.{own_slots, HasSlot, HandlersStayInside}
use Rattle.mm_model.specs.Spelling.{numbers_of, IsOther, IsFresh, HoldsWords, IsImage}
use Rattle.mm_model.proofs.CoreRows.{each_map, each_both, above_first, rest_rises, numbers_above}
use Rattle.mm_model.proofs.Filters.{filter_takes, filter_drops, contained_filter, each_filter, filter_short}

-- 1. Numbers of slots that rise.

abbrev pub Ascends : List Slot → Type 0
Ascends [] = Unit {0}
Ascends (s ∷ slots) = AllByRecursion (λ (x : Slot). s.number < x.number) slots × Ascends slots

pub ascends : (slots : List Slot) → IsStrictlyIncreasing (numbers_of slots) → Ascends slots
ascends [] h = tt
ascends (s ∷ slots) h = (numbers_above s.number slots (above_first s.number (numbers_of slots) h), ascends slots (rest_rises s.number (numbers_of slots) h))

rises : (slots : List Slot) → Ascends slots → IsStrictlyIncreasing (numbers_of slots)
rises [] h k lt = absurd (omega arith)
rises (s ∷ []) h k lt = absurd (omega arith)
rises (s ∷ t ∷ slots) h zero lt = h.0.0
rises (s ∷ t ∷ slots) h (suc k) lt =
    let next : suc k + 1 ≡ suc (k + 1) = omega arith in
    let later : slice_index (numbers_of (t ∷ slots)) k < slice_index (numbers_of (t ∷ slots)) (k + 1) = rises (t ∷ slots) h.1 k (omega arith) in
    rw next later

filter_ascends : (p : Slot → Bool) (slots : List Slot) → Ascends slots → Ascends (filter p slots)
filter_ascends p [] h = tt
filter_ascends p (s ∷ slots) h = elim (cases_Bool (p s)) [
  | inl t ↦
      subst Ascends (sym (filter_takes p s slots t)) (
        each_map (λ (x : Slot). (s.number < x.number) × (p x ≡ true)) (λ (x : Slot). s.number < x.number) (λ x k. k.0)
            (filter p slots) (each_filter p (λ (x : Slot). s.number < x.number) slots h.0),
        filter_ascends p slots h.1,
      )
  | inr f ↦ subst Ascends (sym (filter_drops p s slots f)) (filter_ascends p slots h.1)
]

-- 2. An image of the groups' slots.

module _ (i : Image) (c : ℕ → Bool) (img : IsImage i) (has : HasSlot i c) (stays : HandlersStayInside i c) where
  in_own : (s : Slot) → Contains i.slots s → c s.group ≡ true → Contains (own_slots c i.slots) s
  in_own s is cs = contained_filter (λ (x : Slot). c x.group) i.slots s is cs

  own_some : 1 ≤ length (own_slots c i.slots)
  own_some = let at = in_own has.slot has.stands has.member in omega (arith, at.1)

  own_handler : (s : Slot) → Contains i.slots s → c s.group ≡ true → IfSome s.handler (IsOther i.slots s.number) → IfSome s.handler (IsOther (own_slots c i.slots) s.number)
  own_handler s is cs h = by s.handler refl h
    where
      by : (o : Option ℕ) → s.handler ≡ o → IfSome o (IsOther i.slots s.number) → IfSome o (IsOther (own_slots c i.slots) s.number)
      by None e k = tt
      by (Some n) e k =
          let side = stays s k.1.0 is k.1.1 (e ∙ ap (λ (x : ℕ). Some x) (sym k.1.2)) cs in
          (k.0, (k.1.0, in_own k.1.0 k.1.1 side, k.1.2))

  own_fresh_slot : (s : Slot) → Contains i.slots s → c s.group ≡ true → IsFresh (slot_limit i.version) i.slots s → IsFresh (slot_limit i.version) (own_slots c i.slots) s
  own_fresh_slot s is cs f = record {
    number = f.number;
    group = f.group;
    handler = own_handler s is cs f.handler;
    begins = f.begins;
    executable = f.executable;
    ip = f.ip;
    registers = f.registers;
    words = f.words;
    past = f.past;
    turns = f.turns;
    empty = f.empty;
    pending = f.pending;
  }

  own_fresh : AllByRecursion (IsFresh (slot_limit i.version) (own_slots c i.slots)) (own_slots c i.slots)
  own_fresh =
      each_map (λ (s : Slot). (Contains i.slots s × IsFresh (slot_limit i.version) i.slots s) × (c s.group ≡ true))
      (IsFresh (slot_limit i.version) (own_slots c i.slots)) (λ s k. own_fresh_slot s k.0.0 k.1 k.0.1)
      (own_slots c i.slots)
      (each_filter (λ (s : Slot). c s.group) (λ (s : Slot). Contains i.slots s × IsFresh (slot_limit i.version) i.slots s) i.slots
      (each_both (Contains i.slots) (IsFresh (slot_limit i.version) i.slots) (λ (s : Slot). Contains i.slots s × IsFresh (slot_limit i.version) i.slots s) (λ s a b. (a, b)) i.slots
      (recursion_from_All (Contains i.slots) i.slots (All-contains_itself i.slots)) img.fresh))

  -- with any memory of as many frames
  pub own_image : (m : Memory) → m.frames ≡ i.memory.frames → IsPaged m → AllByRecursion HoldsWords m.pages
      → IsImage (record { version = i.version; split = i.split; slots = own_slots c i.slots; memory = m })
  own_image m frames paged words = record {
    version = img.version;
    mode = img.mode;
    some_slots = own_some;
    few_slots = let short = filter_short (λ (s : Slot). c s.group) i.slots in let few = img.few_slots in omega arith;
    rising = rises (own_slots c i.slots) (filter_ascends (λ (s : Slot). c s.group) i.slots (ascends i.slots img.rising));
    fresh = own_fresh;
    some_frames = let some = img.some_frames in omega arith;
    few_frames = let few = img.few_frames in omega arith;
    paged = paged;
    words = words;
  }
