-- A machine that has made a turn, by what was noted.
use Rattle.std.proofs.Common.{◌≡◌, ◌⊎◌, inl, inr, ℕ, zero, suc, ◌-◌, ◌<◌, ◌%◌, ◌&&◌, nat_le, Bool, true, false, List, [], ◌∷◌, length, slice_index_or, Option, Some, None, if◌then◌else◌, refl, sym, ap, ◌∙◌, subst, arith, leb-true}
use Rattle.std.proofs.lemmas.List.{length-map, get_or-map}
use Rattle.std.specs.{Prelude.zip}
use Rattle.mm_model.specs.declared.slot.Pending.{Pending}
use Rattle.mm_model.specs.{Slot.Slot, Memory.Memory, State.{ThreadRow, Core, slot_at}}
use Rattle.mm_model.specs.{Ask.ask, Effect.{effect, Effect.{Fault, Block, Deliver, Do}}}
use Rattle.mm_model.specs.Turn.{faulted, blocked, ended, executed, reply, touch_of, asked_use}
use Rattle.mm_model.specs.{Fits.{slots_of}, Turn.{turn, taken_by, taken_by_port, started, arrives, idle, is_running}}
use Rattle.mm_model.proofs.{CoreRows.slot_at-number, SlotSteps.delivered_from, TurnShapes.{started_one, fetch_use}}
use Rattle.mm_thread.specs.SlotIndices.{no_slot, no_row, slot_in, queue_in}
use Rattle.mm_config.specs.declared.{store.Store.Store}
use Rattle.mm_config.specs.{Naming.{IsSlotName, IsQueueName, AreLeaves, leaf_at}, Noting.IsKeptStill, Turning.{NotesLeaves}}
use Rattle.mm_config.proofs.{Leaves.{settled, IsSettled}, Staying.{slot_stays, queue_stays}}

-- 1. The slot of a step.

second : (a b : Bool) → (a && b) ≡ true → b ≡ true
second true b e = e
second false b e = cc

module _ (core : Core) (m : Memory) (n : ℕ) (byte : n < 256) where
  started_slot : (x : Slot) → (started core m x).step.slot ≡ x.number
  unfolding executed ended faulted blocked
  started_slot x = started_one core m x (λ t. t.step.slot ≡ x.number) (record {
    faults = λ cause f done aim. refl;
    lacks_register = λ f instr aim is lacking. (delivered_from x).number;
    carries_out = λ f instr aim is has.
        elim (effect core.split instr x (reply core m x.number (ask instr x)))
        as (λ y. (ended core m x instr f (touch_of (ask instr x)) (fetch_use f ∷ asked_use m (ask instr x)) y).step.slot ≡ x.number) [
          | Fault cause ↦ refl
          | Block ↦ refl
          | Deliver o ↦ refl
          | Do d ↦ refl
        ];
  })

  arrived_slot : (x : Slot) (ps : List Pending) → (arrives core m x ps).step.slot ≡ x.number
  unfolding idle
  arrived_slot x [] = refl
  arrived_slot x (p ∷ ps) = refl

  -- if there is one, it is that of the item
  pub turn_slot : (s : Slot) → s.number < 64 → slot_at core (turn core m n).step.slot ≡ Some s → (turn core m n).step.slot ≡ n % 128
  unfolding turn idle
  turn_slot s small at = by (slot_at core n) refl at
    where
      port : (b : Bool) → (core.split && nat_le 128 n) ≡ b → slot_at core n ≡ None → (o : Option Slot) → slot_at core (n - 128) ≡ o
          → slot_at core (taken_by_port core m n (if b then o else None)).step.slot ≡ Some s → (taken_by_port core m n (if b then o else None)).step.slot ≡ n % 128
      port false e none o is at = cc (none, at)
      port true e none None is at = cc (none, at)
      port true e none (Some x) is at =
          let own = arrived_slot x x.pending in
          let number = slot_at-number core (n - 128) x is in
          let high = leb-true 128 n (second core.split (nat_le 128 n) e) in
          let same = slot_at-number core (arrives core m x x.pending).step.slot s at in
          omega (arith, own, number, high, same, small, byte)

      run : (b : Bool) (x : Slot) → slot_at core n ≡ Some x → slot_at core (if b then started core m x else idle core m n).step.slot ≡ Some s
          → (if b then started core m x else idle core m n).step.slot ≡ n % 128
      run true x is at =
          let own = started_slot x in
          let number = slot_at-number core n x is in
          let same = slot_at-number core (started core m x).step.slot s at in
          omega (arith, own, number, same, small)
      run false x is at = let number = slot_at-number core n s at in omega (arith, number, small)

      by : (o : Option Slot) → slot_at core n ≡ o → slot_at core (taken_by core m n o).step.slot ≡ Some s → (taken_by core m n o).step.slot ≡ n % 128
      by None none at = port (core.split && nat_le 128 n) refl none (slot_at core (n - 128)) refl at
      by (Some x) is at = run (is_running x.state) x is at

-- 2. Slots by their indices.

pub zip_get : (xs ys : List Slot) (k : ℕ) → k < length xs → k < length ys → slice_index_or (zip xs ys) k (no_slot, no_slot) ≡ (slice_index_or xs k no_slot, slice_index_or ys k no_slot)
zip_get [] ys k lx ly = absurd (omega (arith, lx))
zip_get (x ∷ xs) [] k lx ly = absurd (omega (arith, ly))
zip_get (x ∷ xs) (y ∷ ys) zero lx ly = refl
zip_get (x ∷ xs) (y ∷ ys) (suc k) lx ly = zip_get xs ys k (omega (arith, lx)) (omega (arith, ly))

pub zip_long : (xs ys : List Slot) → length xs ≡ length ys → length (zip xs ys) ≡ length xs
zip_long [] ys e = refl
zip_long (x ∷ xs) [] e = absurd (omega (arith, e))
zip_long (x ∷ xs) (y ∷ ys) e = ap suc (zip_long xs ys (omega (arith, e)))

pub slots_at : (core : Core) (k : ℕ) → k < length core.rows → slice_index_or (slots_of core) k no_slot ≡ slot_in core k
slots_at core k lt = get_or-map (λ (row : ThreadRow). row.slot) core.rows k no_row no_slot lt

pub slots_long : (core : Core) → length (slots_of core) ≡ length core.rows
slots_long core = length-map core.rows (λ (row : ThreadRow). row.slot)

module _ (base : List Slot) (core now : Core) (old new : Store) (still : IsKeptStill old new) (depth was tree : ℕ) (Noted : ℕ → Type 0)
    (many : length base ≡ length core.rows) (same : length now.rows ≡ length core.rows) where
  -- names of slots are those of the slots that there are now
  pub slots_settled : AreLeaves (λ (x : Slot × Slot) name. IsSlotName old x.0 x.1 name) (zip base (slots_of core)) old.pairs depth was
      → NotesLeaves (λ k name. (k < length base) × IsSlotName new (slice_index_or base k no_slot) (slot_in now k) name) Noted old.pairs depth was new.pairs tree
      → ((k : ℕ) → k < length core.rows → (Noted k → ⊥) → slot_in now k ≡ slot_in core k)
      → AreLeaves (λ (x : Slot × Slot) name. IsSlotName new x.0 x.1 name) (zip base (slots_of now)) new.pairs depth tree
  slots_settled of notes left =
      settled (λ (x : Slot × Slot) name. IsSlotName old x.0 x.1 name) (λ (x : Slot × Slot) name. IsSlotName new x.0 x.1 name) (zip base (slots_of core)) (zip base (slots_of now)) (no_slot, no_slot)
      old.pairs new.pairs depth was tree of (now_long ∙ sym was_long) notes.inner (λ k. by k (notes.each k))
    where
      was_long : length (zip base (slots_of core)) ≡ length base
      was_long = zip_long base (slots_of core) (many ∙ sym (slots_long core))

      now_long : length (zip base (slots_of now)) ≡ length base
      now_long = zip_long base (slots_of now) (many ∙ sym same ∙ sym (slots_long now))

      pair : (k : ℕ) → k < length base → slice_index_or (zip base (slots_of now)) k (no_slot, no_slot) ≡ (slice_index_or base k no_slot, slot_in now k)
      pair k lt =
          let rows = slots_long now in
          zip_get base (slots_of now) k lt (omega (arith, lt, many, same, rows)) ∙ ap (λ s. (slice_index_or base k no_slot, s)) (slots_at now k (omega (arith, lt, many, same)))

      pair_was : (k : ℕ) → k < length base → slice_index_or (zip base (slots_of core)) k (no_slot, no_slot) ≡ (slice_index_or base k no_slot, slot_in core k)
      pair_was k lt =
          let rows = slots_long core in
          zip_get base (slots_of core) k lt (omega (arith, lt, many, rows)) ∙ ap (λ s. (slice_index_or base k no_slot, s)) (slots_at core k (omega (arith, lt, many)))

      by : (k : ℕ) → ((k < length base) × IsSlotName new (slice_index_or base k no_slot) (slot_in now k) (leaf_at new.pairs depth tree k))
          ⊎ ((Noted k → ⊥) × (leaf_at new.pairs depth tree k ≡ leaf_at old.pairs depth was k))
          → IsSettled (λ (x : Slot × Slot) name. IsSlotName old x.0 x.1 name) (λ (x : Slot × Slot) name. IsSlotName new x.0 x.1 name) (zip base (slots_of core)) (zip base (slots_of now)) (no_slot, no_slot)
          old.pairs new.pairs depth was tree of (now_long ∙ sym was_long) notes.inner k
      by k (inl h) =
          let lt = h.0 in
          inl (omega (arith, lt, was_long), subst (λ (x : Slot × Slot). IsSlotName new x.0 x.1 (leaf_at new.pairs depth tree k)) (sym (pair k lt)) h.1)
      by k (inr h) = inr (
        h.1,
        λ lt name is.
            let inside : k < length base = omega (arith, lt, was_long) in
            let rows : k < length core.rows = omega (arith, inside, many) in
            let named : IsSlotName old (slice_index_or base k no_slot) (slot_in core k) name = subst (λ (x : Slot × Slot). IsSlotName old x.0 x.1 name) (pair_was k inside) is in
            let more = slot_stays old new still (slice_index_or base k no_slot) (slot_in core k) name named in
            subst (λ (x : Slot × Slot). IsSlotName new x.0 x.1 name) (sym (pair k inside))
            (subst (λ s. IsSlotName new (slice_index_or base k no_slot) s name) (sym (left k rows h.0)) more),
      )

  -- names of queues likewise
  pub queues_settled : AreLeaves (λ (row : ThreadRow) name. IsQueueName old row.queue name) core.rows old.pairs depth was
      → NotesLeaves (λ k name. (k < length base) × IsQueueName new (queue_in now k) name) Noted old.pairs depth was new.pairs tree
      → ((k : ℕ) → k < length core.rows → (Noted k → ⊥) → leaf_at new.pairs depth tree k ≡ leaf_at old.pairs depth was k → queue_in now k ≡ queue_in core k)
      → AreLeaves (λ (row : ThreadRow) name. IsQueueName new row.queue name) now.rows new.pairs depth tree
  queues_settled of notes left =
      settled (λ (row : ThreadRow) name. IsQueueName old row.queue name) (λ (row : ThreadRow) name. IsQueueName new row.queue name) core.rows now.rows no_row
      old.pairs new.pairs depth was tree of same notes.inner (λ k. by k (notes.each k))
    where
      by : (k : ℕ) → ((k < length base) × IsQueueName new (queue_in now k) (leaf_at new.pairs depth tree k))
          ⊎ ((Noted k → ⊥) × (leaf_at new.pairs depth tree k ≡ leaf_at old.pairs depth was k))
          → IsSettled (λ (row : ThreadRow) name. IsQueueName old row.queue name) (λ (row : ThreadRow) name. IsQueueName new row.queue name) core.rows now.rows no_row
          old.pairs new.pairs depth was tree of same notes.inner k
      by k (inl h) = let lt = h.0 in inl (omega (arith, lt, many), h.1)
      by k (inr h) = inr (
        h.1,
        λ lt name is.
            subst (λ q. IsQueueName new q name) (sym (left k lt h.0 h.1)) (queue_stays old new still (queue_in core k) name is),
      )
