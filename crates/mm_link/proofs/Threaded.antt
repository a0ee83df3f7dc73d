-- Each thread is a slot, and each slot a thread; and where each has a slot of its own.
use Rattle.std.proofs.Common.{◌≡◌, ◌≢◌, ℕ, suc, ◌<◌, ◌≤◌, Bool, true, false, cond, List, [], ◌∷◌, length, ◌==◌, refl}
use Rattle.std.proofs.Common.{sym, ap, ◌∙◌, subst, inl, inr, arith, eq-eqb, eqb-true, ne_eqb}
use Rattle.std.proofs.lemmas.{Bool.cond-true, List.{Elements.All-from_recursion, Kept.AllPairs-cons}}
use Rattle.std.specs.{Prelude.AllPairs, List.{flat_map, AllByRecursion, Sorted.IsPermutation}}
use Rattle.mm_model.specs.{Image.Image, Slot.Slot}
use Rattle.mm_object.specs.{declared.thread.Thread.Thread, Objects.{Object, IsObject}}
use Rattle.mm_object.proofs.Members.{In, from_flat, in_filter, each_in, each_from, contained}
use Rattle.mm_link.specs.{Placing.sites_of, Faults.{threads_of, with_slot}}
use Rattle.mm_link.specs.{Linked.{object_slots, by_number, slots_of, image_of}, Laws.SlotsAreThreads}
use Rattle.mm_link.proofs.{Clean.{clean, few_frames, page_frames}, SegmentPlaces.near_sites}
use Rattle.mm_link.proofs.{Numbered.{is_start, as_many, small}, Tied.none_kept}

-- 1. Slots.

image_slots : (objects : List Object) → (image_of objects).slots ≡ by_number (flat_map (object_slots (sites_of objects)) objects)
unfolding image_of slots_of
image_slots objects = refl

pub slots_are_threads : SlotsAreThreads
slots_are_threads objects i are linked =
    let slots = flat_map (object_slots (sites_of objects)) objects in
    let well = clean objects linked.clean in
    let few = few_frames objects well.size in
    let pages = page_frames objects in
    let low = small objects are well (near_sites objects are (omega arith)) in
    let same : i.slots ≡ by_number slots = ap (λ (x : Image). x.slots) linked.image ∙ image_slots objects in
    subst (IsPermutation slots) (sym same) (as_many slots (each_from (λ (s : Slot). s.number < 16) slots low))

-- 2. Threads of slots of their own.

-- each is one of 16 slots
pub small_slot : (objects : List Object) → AllByRecursion IsObject objects → (t : Thread) → In t (threads_of objects) → t.slot < 16
small_slot objects are t h = let r = from_flat (λ (o : Object). o.threads) t objects h in (is_start r.0 (each_in IsObject r.0 objects are r.1) t r.2).slot

abbrev pub AreApart : List Thread → Type 0
AreApart threads = AllPairs (λ (a b : Thread). a.slot ≢ b.slot) threads

some_in : {A : Type 0} (x : A) (xs : List A) → In x xs → 1 ≤ length xs
some_in x [] h = absurd h
some_in x (y ∷ xs) h = omega arith

fewer : (n : ℕ) (t : Thread) (threads : List Thread) → length (with_slot n (t ∷ threads)) ≤ 1 → length (with_slot n threads) ≤ 1
fewer n t threads = elim (t.slot == n) as (λ b. length (cond b (t ∷ with_slot n threads) (with_slot n threads)) ≤ 1 → length (with_slot n threads) ≤ 1) [ true ↦ λ h. omega arith | false ↦ λ h. h ]

-- no slot is two threads', so that any two have other ones
pub apart_from_few : (threads : List Thread) → ((t : Thread) → In t threads → t.slot < 16) → ((n : ℕ) → n < 16 → length (with_slot n threads) ≤ 1) → AreApart threads
apart_from_few [] low few = λ i j d lt within. absurd (omega arith)
apart_from_few (t ∷ threads) low few =
    AllPairs-cons (λ (a b : Thread). a.slot ≢ b.slot) t threads (All-from_recursion (λ (b : Thread). t.slot ≢ b.slot) threads (each_from (λ (b : Thread). t.slot ≢ b.slot) threads other))
    (apart_from_few threads (λ u is. low u (inr is)) (λ n lt. fewer n t threads (few n lt)))
  where
    other : (b : Thread) → In b threads → t.slot ≢ b.slot
    other b is same =
        let more = some_in b (with_slot t.slot threads) (in_filter (λ (u : Thread). u.slot == t.slot) b threads is (eq-eqb b.slot t.slot (sym same))) in
        let here = cond-true (t.slot == t.slot) (t ∷ with_slot t.slot threads) (with_slot t.slot threads) (eq-eqb t.slot t.slot refl) in
        let two = few t.slot (low t (inl refl)) in
        let long : length (with_slot t.slot (t ∷ threads)) ≡ suc (length (with_slot t.slot threads)) = ap length here in
        omega arith

-- what holds of all pairs holds of the first item and each later one, and of the later ones
module _ {A : Type 0} (R : A → A → Type 0) (x : A) (xs : List A) (h : AllPairs R (x ∷ xs)) where
  first_pair : (y : A) → In y xs → R x y
  first_pair y is = let r = contained y xs is in subst (R x) r.2 (h 0 (suc r.0) y (omega arith) (omega (arith, r.1)))

  later_pairs : AllPairs R xs
  later_pairs = λ i j d lt within. h (suc i) (suc j) d (omega arith) (omega arith)

-- and the other way round
pub few_from_apart : (n : ℕ) (threads : List Thread) → AreApart threads → length (with_slot n threads) ≤ 1
few_from_apart n [] h = omega arith
few_from_apart n (t ∷ threads) h = by (t.slot == n) refl (few_from_apart n threads (later_pairs (λ (a b : Thread). a.slot ≢ b.slot) t threads h))
  where
    by : (b : Bool) → t.slot == n ≡ b → length (with_slot n threads) ≤ 1 → length (cond b (t ∷ with_slot n threads) (with_slot n threads)) ≤ 1
    by true e later =
        let same = eqb-true t.slot n e in
        let none = none_kept (λ (u : Thread). u.slot == n) threads (λ u is. ne_eqb u.slot n (λ also. first_pair (λ (a b : Thread). a.slot ≢ b.slot) t threads h u is (same ∙ sym also))) in
        let long = ap length none in
        omega arith
    by false e later = later
