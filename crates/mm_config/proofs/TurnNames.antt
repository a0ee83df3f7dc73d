-- What a turn leaves by the indices of slots.
use Rattle.std.proofs.Common.{◌≡◌, ◌⊎◌, inl, inr, ℕ, ◌<◌, true, false, List, [], map, length, slice_index_or, Option, Some, None, sym, ap, ◌∙◌, subst, arith}
use Rattle.std.proofs.lemmas.{List.{length-map, get_or-map, get_or_default}}
use Rattle.std.specs.Prelude.{IsBitSet, IsSomeAnd, ◌↔◌}
use Rattle.mm_model.specs.declared.{slot.SlotState.{TheVariants.Running}, step.Tick.{Tick}}
use Rattle.mm_model.specs.{Slot.Slot, State.{ThreadRow, Core, slot_of, slot_at, queue_at}, Turn.{is_running}}
use Rattle.mm_model.specs.{Fits.{slots_of, identity_of, IsCore}}
use Rattle.mm_thread.specs.SlotIndices.{no_slot, no_row, slot_in, queue_in}
use Rattle.mm_thread.proofs.{Index.{slot_found, queue_found, row_in-none}, RowIndex.apart_in, Revised.{slots_many, same_at}}
use Rattle.mm_laws.specs.Frames.{SlotLeft, QueueLeft}
use Rattle.mm_config.specs.Turning.{IsServedBy, IsFaultHandler}

-- the slot of a list at an index has the identity of that of a core
pub base_identity : (base : List Slot) (core : Core) → map identity_of base ≡ map identity_of (slots_of core) → (k : ℕ) → k < length core.rows
    → identity_of (slice_index_or base k no_slot) ≡ identity_of (slot_in core k)
base_identity base core alike k lt =
    let many = slots_many base core alike in
    same_at base core alike k (slice_index_or base k no_slot) (omega (arith, many, lt)) (get_or_default base k no_slot (slice_index_or base k no_slot) (omega (arith, many, lt)))

-- what the slots of two cores of one identity have
module _ (core later : Core) (whole : IsCore core) (after : IsCore later) (same : map identity_of (slots_of later) ≡ map identity_of (slots_of core)) where
  pub as_many : length later.rows ≡ length core.rows
  as_many = sym (length-map later.rows (λ (row : ThreadRow). row.slot)) ∙ slots_many (slots_of later) core same

  pub identity_in : (k : ℕ) → k < length core.rows → identity_of (slot_in later k) ≡ identity_of (slot_in core k)
  identity_in k lt =
      let rows = length-map later.rows (λ (row : ThreadRow). row.slot) in
      let many = as_many in
      same_at (slots_of later) core same k (slot_in later k) (omega (arith, rows, many, lt))
      (sym (get_or-map (λ (row : ThreadRow). row.slot) later.rows k no_row (slot_in later k) (omega (arith, many, lt))))

  number_in : (k : ℕ) → k < length core.rows → (slot_in later k).number ≡ (slot_in core k).number
  number_in k lt = ap (λ i. i.0) (identity_in k lt)

  -- a number that none has later none had before
  pub missing_before : (n : ℕ) → slot_at later n ≡ None → slot_at core n ≡ None
  unfolding slot_at
  missing_before n none =
      ap slot_of (row_in-none core.rows n (λ k lt e.
      let many = as_many in
      let found = slot_found later (apart_in later after) k (omega (arith, many, lt)) in
      let both : Some (slot_in later k) ≡ None = sym found ∙ ap (slot_at later) (number_in k lt ∙ e) ∙ none in
      cc))

  -- a slot that is the same by its number is so by its index
  pub slot_same : (k : ℕ) → k < length core.rows → slot_at later (slot_in core k).number ≡ slot_at core (slot_in core k).number → slot_in later k ≡ slot_in core k
  slot_same k lt e =
      let many = as_many in
      let one : slot_at later (slot_in core k).number ≡ Some (slot_in later k) =
      ap (slot_at later) (sym (number_in k lt)) ∙ slot_found later (apart_in later after) k (omega (arith, many, lt)) in
      let two = slot_found core (apart_in core whole) k lt in
      let both : ◌≡◌ {A = Option Slot} (Some (slot_in later k)) (Some (slot_in core k)) = sym one ∙ e ∙ two in
      cc

  pub queue_same : (k : ℕ) → k < length core.rows → queue_at later (slot_in core k).number ≡ queue_at core (slot_in core k).number → queue_in later k ≡ queue_in core k
  queue_same k lt e =
      let many = as_many in
      sym (queue_found later (apart_in later after) k (omega (arith, many, lt))) ∙ ap (queue_at later) (number_in k lt) ∙ e ∙ queue_found core (apart_in core whole) k lt

  -- the slots that neither took the turn nor were served stay
  pub slot_stays_in : (base : List Slot) (at by running : ℕ) → map identity_of base ≡ map identity_of (slots_of core) → at < length core.rows → (slot_in core at).number ≡ by
      → ((n : ℕ) → IsBitSet running n ↔ IsSomeAnd (slot_at core n) (λ s. s.state ≡ Running)) → ((n : ℕ) → SlotLeft core later by n)
      → (k : ℕ) → k < length core.rows → (k ≡ at → ⊥) → (IsServedBy base by running k → ⊥) → slot_in later k ≡ slot_in core k
  slot_stays_in base at by running alike within own runs frame k lt ne unserved = cases (frame (slot_in core k).number)
    where
      base_at : identity_of (slice_index_or base k no_slot) ≡ identity_of (slot_in core k)
      base_at = base_identity base core alike k lt

      cases : SlotLeft core later by (slot_in core k).number → slot_in later k ≡ slot_in core k
      cases (SlotLeft.Same e) = slot_same k lt e
      cases (SlotLeft.Own e) = absurd (ne ((apart_in core whole).own k at lt within (e ∙ sym own)))
      cases (SlotLeft.Served h) =
          let found = slot_found core (apart_in core whole) k lt in
          let two : ◌≡◌ {A = Option Slot} (Some h.before) (Some (slot_in core k)) = sym h.was ∙ found in
          let one : h.before ≡ slot_in core k = cc in
          let many = slots_many base core alike in
          absurd (unserved (record {
            within = omega (arith, many, lt);
            handler = ap (λ i. i.2) base_at ∙ ap (λ (s : Slot). s.handler) (sym one) ∙ h.handler;
            rests = λ set. resting h.before (runs_at h.before h.was (subst (λ n. IsBitSet running n) (ap (λ i. i.0) base_at) set)) h.rests;
          }))
        where
          resting : (s : Slot) → s.state ≡ Running → is_running s.state ≡ false → ⊥
          resting s e rests = let t : is_running s.state ≡ true = ap is_running e in cc

          runs_at : (s : Slot) → slot_at core (slot_in core k).number ≡ Some s → IsBitSet running (slot_in core k).number → s.state ≡ Running
          runs_at s is set = subst (λ (o : Option Slot). IsSomeAnd o (λ s. s.state ≡ Running)) is ((runs (slot_in core k).number).0 set)

  -- the queues that neither got an event nor lost one stay
  pub queue_stays_in : (base : List Slot) (at by : ℕ) (tick : Tick) → map identity_of base ≡ map identity_of (slots_of core) → at < length core.rows → (slot_in core at).number ≡ by
      → ((n : ℕ) → QueueLeft core later by tick n) → (k : ℕ) → k < length core.rows → (IsFaultHandler base tick at k → ⊥) → (k ≡ at → ⊥) ⊎ (queue_in core k ≡ [])
      → queue_in later k ≡ queue_in core k
  queue_stays_in base at by tick alike within own frame k lt no_fault free = cases (frame (slot_in core k).number) free
    where
      cases : QueueLeft core later by tick (slot_in core k).number → (k ≡ at → ⊥) ⊎ (queue_in core k ≡ []) → queue_in later k ≡ queue_in core k
      cases (QueueLeft.Same e) free = queue_same k lt e
      cases (QueueLeft.Taken e h) (inl ne) = absurd (ne ((apart_in core whole).own k at lt within (e ∙ sym own)))
      cases (QueueLeft.Taken e h) (inr none) = let found = queue_found core (apart_in core whole) k lt in let was = h.was in cc
      cases (QueueLeft.Added h) free =
          let here : slot_at core by ≡ Some (slot_in core at) = ap (slot_at core) (sym own) ∙ slot_found core (apart_in core whole) at within in
          let two : ◌≡◌ {A = Option Slot} (Some h.slot) (Some (slot_in core at)) = sym h.there ∙ here in
          let one : h.slot ≡ slot_in core at = cc in
          let many = slots_many base core alike in
          absurd (no_fault (record {
            cause = h.cause;
            faults = h.faults;
            within = omega (arith, many, lt);
            handler = ap (λ i. i.2) (base_identity base core alike at within) ∙ ap (λ (s : Slot). s.handler) (sym one) ∙ h.handler
                ∙ ap Some (sym (ap (λ i. i.0) (base_identity base core alike k lt)));
          }))
