-- What a turn leaves of a configuration.
use Rattle.std.proofs.Common.{◌≡◌, inl, inr, ℕ, ◌<◌, List, [], ◌∷◌, map, length, get_or, set, Option, Some, None, sym, ap, ◌∙◌}
use Rattle.std.proofs.Common.{arith}
use Rattle.std.proofs.lemmas.{Bool.cases_eq, List.{ext_get_or, get_or-map, get_or-set_same, get_or-set_other, length-map, length-set}}
use Rattle.std.specs.List.{AllByRecursion}
use Rattle.mm_model.specs.{Slot.Slot, State.{ThreadRow, Core, State, slot_at}, Fits.{slots_of, IsCore}, Run.{turn_of, after}, Turn.Turned}
use Rattle.mm_model.proofs.CoreRows.{slot_has}
use Rattle.mm_thread.specs.SlotIndices.{no_row, row_at, slot_in, with_slot}
use Rattle.mm_thread.proofs.{Index.slot_found, RowIndex.apart_in}
use Rattle.mm_laws.specs.Frames.{LeavesTheRest, SlotLeft}
use Rattle.mm_config.specs.Configurations.{uncounted_row, uncounted, configuration}

-- 1. Slots without counts.

bare_rows : (rows : List ThreadRow) → map uncounted_row rows ≡ rows → AllByRecursion (λ (s : Slot). s.turns ≡ 0) (map (λ (row : ThreadRow). row.slot) rows)
bare_rows [] e = tt
bare_rows (row ∷ rows) e =
    let first : uncounted_row row ≡ row = cc in
    let rest : map uncounted_row rows ≡ rows = cc in
    (ap (λ (r : ThreadRow). r.slot.turns) (sym first), bare_rows rows rest)

pub bare_core : (s : State) → configuration s ≡ s → uncounted s.core ≡ s.core
unfolding configuration
bare_core s e = ap (λ (x : State). x.core) e

pub bare_slots : (s : State) → configuration s ≡ s → AllByRecursion (λ (x : Slot). x.turns ≡ 0) (slots_of s.core)
bare_slots s e = bare_rows s.core.rows (ap (λ (k : Core). k.rows) (bare_core s e))

-- a configuration once more
pub configuration_of : (core : Core) (s : State) → core ≡ s.core → configuration s ≡ s → ◌≡◌ {A = State} (record { core = uncounted core; memory = s.memory; cycles = 0 }) s
unfolding configuration
configuration_of core s e bare = ap (λ (k : Core). let x : State = record { core = uncounted k; memory = s.memory; cycles = 0 } in x) e ∙ bare

module _ (s : State) (bare : configuration s ≡ s) (item : ℕ) (frame : LeavesTheRest s.core s.memory (turn_of s item)) where
  abbrev t : Turned
  t = turn_of s item

  -- the turn of no slot
  pub nobody_turns : slot_at s.core (turn_of s item).step.slot ≡ None → configuration (after s item) ≡ s
  unfolding after configuration
  nobody_turns none =
      let same = frame.nobody none in
      (λ j. let x : State = record { core = uncounted (same.0 j); memory = same.1 j; cycles = 0 } in x) ∙ bare

  module _ (whole : IsCore (turn_of s item).core) (at : ℕ) (within : at < length (turn_of s item).core.rows) (number : (slot_in (turn_of s item).core at).number ≡ (turn_of s item).step.slot) where
    later : (k : ℕ) → k < length t.core.rows → (k ≡ at → ⊥) → (slot_in t.core k).turns ≡ 0
    later k lt ne =
        let apart = apart_in t.core whole in
        let n = (slot_in t.core k).number in
        let found = slot_found t.core apart k lt in
        by (frame.slots n) found
      where
        by : SlotLeft s.core (turn_of s item).core (turn_of s item).step.slot (slot_in (turn_of s item).core k).number
            → slot_at (turn_of s item).core (slot_in (turn_of s item).core k).number ≡ Some (slot_in (turn_of s item).core k) → (slot_in (turn_of s item).core k).turns ≡ 0
        by (SlotLeft.Same e) found = slot_has (λ (x : Slot). x.turns ≡ 0) s.core (slot_in (turn_of s item).core k).number (slot_in (turn_of s item).core k) (bare_slots s bare) (sym e ∙ found)
        by (SlotLeft.Own e) found = absurd (ne ((apart_in (turn_of s item).core whole).own k at lt within (e ∙ sym number)))
        by (SlotLeft.Served h) found =
            let two : ◌≡◌ {A = Option Slot} (Some h.after) (Some (slot_in (turn_of s item).core k)) = sym h.is ∙ found in
            let one : h.after ≡ slot_in (turn_of s item).core k = cc in
            ap (λ (x : Slot). x.turns) (sym one) ∙ h.turns ∙ slot_has (λ (x : Slot). x.turns ≡ 0) s.core (slot_in (turn_of s item).core k).number h.before (bare_slots s bare) h.was

    -- with the count of its slot taken away it is the configuration
    pub uncounted_is : with_slot (turn_of s item).core at (record (slot_in (turn_of s item).core at) { turns = 0 }) ≡ uncounted (turn_of s item).core
    uncounted_is =
        let rows : List ThreadRow = t.core.rows in
        let new : ThreadRow = record (row_at t.core at) { slot = record (slot_in t.core at) { turns = 0 } } in
        let many = length-set rows at new in
        let long = length-map rows uncounted_row in
        ap (λ (l : List ThreadRow). record t.core { rows = l })
        (ext_get_or no_row (set rows at new) (map uncounted_row rows) (many ∙ sym long) (λ k lt.
        let inside : k < length rows = omega (arith, many, lt) in
        elim (cases_eq k at) [
          | inl e ↦
              ap (λ n. get_or (set rows at new) n no_row) e ∙ get_or-set_same rows at new no_row within
              ∙ sym (get_or-map uncounted_row rows at no_row no_row within) ∙ ap (λ n. get_or (map uncounted_row rows) n no_row) (sym e)
          | inr ne ↦
              let zero = later k inside ne in
              get_or-set_other rows at k new no_row ne
              ∙ (λ j. let row : ThreadRow = record (row_at t.core k) { slot = record (slot_in t.core k) { turns = zero j } } in row)
              ∙ sym (get_or-map uncounted_row rows k no_row no_row inside)
        ]))
