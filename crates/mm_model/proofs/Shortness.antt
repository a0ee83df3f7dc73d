-- Queues and lists of pending loads are short: no two of their items are of one slot, or of one register.
use Rattle.std.proofs.Common.{◌≡◌, ◌≢◌, ℕ, zero, suc, ◌+◌, ◌<◌, ◌≤◌, inl, inr, true, false, nat_eq, if◌then◌else◌, List}
use Rattle.std.proofs.Common.{[], ◌∷◌, length, Option, Some, None, refl, sym, ap, ◌∙◌, arith, eq-eqb}
use Rattle.std.{proofs.lemmas.Bool.{cases_eq, ne_eqb}, specs.List.AllByRecursion}
use Rattle.mm_model.proofs.{OneIf.at_most_one, CoreRows.{each_map, slot_at-number, slot_has}, SlotSteps.empty_within}
use Rattle.mm_model.proofs.CoreSteps.{some_true}
use Rattle.mm_model.specs.{declared.{slot.Pending.Pending, event.Event.Event}, Flags.one_if, Slot.{Slot, is_empty}}
use Rattle.mm_model.specs.State.{Core, slot_at, queue_at}
use Rattle.mm_model.specs.Fits.{loads_for, events_of, waits_for, IsSlot, IsFormed, LoadsMatch, Matches}

-- 1. A list whose keys are below a bound, and each of them at most once.

module _ {A : Type 0} (key : A → ℕ) where
  count : ℕ → List A → ℕ
  count n [] = 0
  count n (x ∷ xs) = if nat_eq (key x) n then count n xs + 1 else count n xs

  -- how many items have a key below a bound
  below : ℕ → List A → ℕ
  unfolding count
  below zero xs = 0
  below (suc k) xs = below k xs + count k xs

  count-here : (n : ℕ) (x : A) (xs : List A) → key x ≡ n → count n (x ∷ xs) ≡ count n xs + 1
  unfolding count
  count-here n x xs e = ap (λ b. if b then count n xs + 1 else count n xs) (eq-eqb (key x) n e)

  count-other : (n : ℕ) (x : A) (xs : List A) → key x ≢ n → count n (x ∷ xs) ≡ count n xs
  unfolding count
  count-other n x xs ne = ap (λ b. if b then count n xs + 1 else count n xs) (ne_eqb (key x) n ne)

  below-none : (k : ℕ) → below k [] ≡ 0
  unfolding below count
  below-none zero = refl
  below-none (suc k) = let rest = below-none k in omega arith

  below-past : (k : ℕ) (x : A) (xs : List A) → k ≤ key x → below k (x ∷ xs) ≡ below k xs
  unfolding below
  below-past zero x xs le = refl
  below-past (suc k) x xs le =
      let rest = below-past k x xs (omega arith) in
      let other = count-other k x xs (λ e. omega arith) in
      omega arith

  below-more : (k : ℕ) (x : A) (xs : List A) → key x < k → below k (x ∷ xs) ≡ below k xs + 1
  unfolding below
  below-more zero x xs lt = absurd (omega arith)
  below-more (suc k) x xs lt = elim (cases_eq (key x) k) [
    | inl e ↦
        let rest = below-past k x xs (omega arith) in
        let first = count-here k x xs e in
        omega arith
    | inr ne ↦
        let rest = below-more k x xs (omega arith) in
        let other = count-other k x xs ne in
        omega arith
  ]

  length-below : (k : ℕ) (xs : List A) → AllByRecursion (λ x. key x < k) xs → length xs ≡ below k xs
  length-below k [] h = sym (below-none k)
  length-below k (x ∷ xs) h =
      let rest = length-below k xs h.1 in
      let more = below-more k x xs h.0 in
      omega arith

  below-few : (k : ℕ) (xs : List A) → ((n : ℕ) → count n xs ≤ 1) → below k xs ≤ k
  unfolding below
  below-few zero xs one = omega arith
  below-few (suc k) xs one =
      let rest = below-few k xs one in
      let last = one k in
      omega arith

  below-fewer : (k n : ℕ) (xs : List A) → ((j : ℕ) → count j xs ≤ 1) → n < k → count n xs ≡ 0 → below k xs < k
  unfolding below
  below-fewer zero n xs one lt none = absurd (omega arith)
  below-fewer (suc k) n xs one lt none = elim (cases_eq n k) [
    | inl e ↦
        let rest = below-few k xs one in
        let last : count k xs ≡ 0 = sym (ap (λ j. count j xs) e) ∙ none in
        omega arith
    | inr ne ↦
        let rest = below-fewer k n xs one (omega arith) none in
        let last = one k in
        omega arith
  ]

  each_counts : (xs : List A) → AllByRecursion (λ x. 1 ≤ count (key x) xs) xs
  each_counts [] = tt
  each_counts (x ∷ xs) =
      let own = count-here (key x) x xs refl in
      (omega arith, each_map (λ y. 1 ≤ count (key y) xs) (λ y. 1 ≤ count (key y) (x ∷ xs)) (λ y some. more x y xs some) xs (each_counts xs))
    where
      more : (x y : A) (xs : List A) → 1 ≤ count (key y) xs → 1 ≤ count (key y) (x ∷ xs)
      more x y xs some = elim (cases_eq (key x) (key y)) [
        | inl e ↦ let first = count-here (key y) x xs e in omega arith
        | inr ne ↦ let other = count-other (key y) x xs ne in omega arith
      ]

-- 2. Pending loads.

loads_count : (r : ℕ) (ps : List Pending) → count (λ (p : Pending). p.reg) r ps ≡ loads_for r ps
unfolding count
loads_count r [] = refl
loads_count r (p ∷ ps) = ap (λ n. if nat_eq p.reg r then n + 1 else n) (loads_count r ps)

module _ (s : Slot) (h : IsSlot s) (match : LoadsMatch s) where
  loads_once : (r : ℕ) → count (λ (p : Pending). p.reg) r s.pending ≡ one_if (is_empty s r)
  loads_once r = loads_count r s.pending ∙ match.each r

  -- the registers of pending loads are registers
  pub loads_small : AllByRecursion (λ (p : Pending). p.reg < 16) s.pending
  loads_small =
      each_map (λ (p : Pending). 1 ≤ count (λ (x : Pending). x.reg) p.reg s.pending) (λ (p : Pending). p.reg < 16)
      (λ p some. let once = loads_once p.reg in let within = empty_within s p.reg (some_true (is_empty s p.reg) (omega arith)) in omega (arith, h.flags))
      s.pending (each_counts (λ (p : Pending). p.reg) s.pending)

  at_most_once : (r : ℕ) → count (λ (p : Pending). p.reg) r s.pending ≤ 1
  at_most_once r = let once = loads_once r in let one = at_most_one (is_empty s r) in omega arith

  -- no more loads are pending than there are registers
  pub pending_short : length s.pending ≤ 16
  pending_short =
      let all = length-below (λ (p : Pending). p.reg) 16 s.pending loads_small in
      let few = below-few (λ (p : Pending). p.reg) 16 s.pending at_most_once in
      omega arith

  -- there is room for a load to a register that waits for none
  pub pending_room : (r : ℕ) → r < 16 → is_empty s r ≡ false → length s.pending < 16
  pending_room r small free =
      let all = length-below (λ (p : Pending). p.reg) 16 s.pending loads_small in
      let fewer = below-fewer (λ (p : Pending). p.reg) 16 r s.pending at_most_once small (loads_once r ∙ ap one_if free) in
      omega arith

-- 3. Queues.

events_count : (n : ℕ) (q : List Event) → count (λ (e : Event). e.slot) n q ≡ events_of n q
unfolding count
events_count n [] = refl
events_count n (e ∷ q) = ap (λ k. if nat_eq e.slot n then k + 1 else k) (events_count n q)

module _ (core : Core) (match : Matches core) (g : ℕ) where
  events_once : (n : ℕ) → count (λ (e : Event). e.slot) n (queue_at core g) ≡ one_if (waits_for g (slot_at core n))
  events_once n = events_count n (queue_at core g) ∙ match.events n g

  events_at_most_once : (n : ℕ) → count (λ (e : Event). e.slot) n (queue_at core g) ≤ 1
  events_at_most_once n = let once = events_once n in let one = at_most_one (waits_for g (slot_at core n)) in omega arith

  -- each event is of a slot that waits for the queue's owner
  pub queued_at : AllByRecursion (λ (e : Event). waits_for g (slot_at core e.slot) ≡ true) (queue_at core g)
  queued_at =
      each_map (λ (e : Event). 1 ≤ count (λ (x : Event). x.slot) e.slot (queue_at core g)) (λ (e : Event). waits_for g (slot_at core e.slot) ≡ true)
      (λ e some. let once = events_once e.slot in some_true (waits_for g (slot_at core e.slot)) (omega arith))
      (queue_at core g) (each_counts (λ (e : Event). e.slot) (queue_at core g))

  slot_small : IsFormed core → (n : ℕ) (o : Option Slot) → slot_at core n ≡ o → waits_for g o ≡ true → n < 64
  slot_small h n None is w = cc
  slot_small h n (Some s) is w =
      let number = slot_at-number core n s is in
      let low = (slot_has IsSlot core n s h.slots is).number in
      omega arith

  events_small : IsFormed core → AllByRecursion (λ (e : Event). e.slot < 64) (queue_at core g)
  events_small h =
      each_map (λ (e : Event). waits_for g (slot_at core e.slot) ≡ true) (λ (e : Event). e.slot < 64) (λ e w. slot_small h e.slot (slot_at core e.slot) refl w) (queue_at core g) queued_at

  -- a queue holds no more events than there can be slots
  pub queue_short : IsFormed core → length (queue_at core g) ≤ 64
  queue_short h =
      let all = length-below (λ (e : Event). e.slot) 64 (queue_at core g) (events_small h) in
      let few = below-few (λ (e : Event). e.slot) 64 (queue_at core g) events_at_most_once in
      omega arith

  -- there is room for the event of a slot that does not wait for the queue's owner
  pub queue_room : IsFormed core → (n : ℕ) → n < 64 → waits_for g (slot_at core n) ≡ false → length (queue_at core g) < 64
  queue_room h n small rests =
      let all = length-below (λ (e : Event). e.slot) 64 (queue_at core g) (events_small h) in
      let fewer = below-fewer (λ (e : Event). e.slot) 64 n (queue_at core g) events_at_most_once small (events_once n ∙ ap one_if rests) in
      omega arith
