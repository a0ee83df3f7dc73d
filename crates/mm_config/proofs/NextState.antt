-- The configuration that a turn leads to.
use Rattle.std.proofs.Common.{◌≡◌, ℕ, ◌<◌, List, [], ◌∷◌, map, length, refl, sym, ap, ◌∙◌, subst}
use Rattle.std.specs.List.{AllByRecursion}
use Rattle.mm_model.specs.{Image.Image, State.{ThreadRow, State}, Run.{turn_of, after}}
use Rattle.mm_model.specs.{Fits.{slots_of, identity_of, IsCore, RowHoldsWords}, Spelling.IsImage}
use Rattle.mm_thread.specs.SlotIndices.{slot_in, with_slot}
use Rattle.mm_thread.proofs.Sound.{turn_whole, uncounted_whole}
use Rattle.mm_laws.{specs.Frames.LeavesTheRest, proofs.Left.turn_leaves}
use Rattle.mm_config.specs.{Configurations.{uncounted_row, uncounted, configuration}, Keeping.IsConfigurationOf, States.IsStateOf}
use Rattle.mm_config.proofs.{States.after_state_of, Standing.config_core, Turned.uncounted_is}

words_bare : (rows : List ThreadRow) → AllByRecursion RowHoldsWords rows → AllByRecursion RowHoldsWords (map uncounted_row rows)
words_bare [] h = tt
words_bare (row ∷ rows) h = (
  record { slot = record { registers = h.0.slot.registers; ip = h.0.slot.ip; pending = h.0.slot.pending }; events = h.0.events },
  words_bare rows h.1,
)

pub identities_bare : (rows : List ThreadRow) → map identity_of (map (λ (row : ThreadRow). row.slot) (map uncounted_row rows)) ≡ map identity_of (map (λ (row : ThreadRow). row.slot) rows)
identities_bare [] = refl
identities_bare (row ∷ rows) = ap (λ l. identity_of row.slot ∷ l) (identities_bare rows)

twice_bare : (rows : List ThreadRow) → map uncounted_row (map uncounted_row rows) ≡ map uncounted_row rows
twice_bare [] = refl
twice_bare (row ∷ rows) = ap (λ l. uncounted_row row ∷ l) (twice_bare rows)

-- without counts it is the configuration of a state of the image
pub bare_config : (i : Image) (s : State) → IsStateOf i s → IsCore (uncounted s.core) → IsConfigurationOf i (configuration s)
unfolding configuration
bare_config i s h whole = record {
  state = record {
    state = record { core = whole.formed; rows = words_bare s.core.rows h.state.rows; pages = h.state.pages; cells = h.state.cells };
    fits = record {
      same_slots = identities_bare s.core.rows ∙ h.fits.same_slots;
      version = h.fits.version;
      split = h.fits.split;
      frames = h.fits.frames;
      mapped = h.fits.mapped;
      matched = whole.matched;
    };
    kept = whole.kept;
    bytes = h.bytes;
  };
  bare = ap (λ rows. let x : State = record { core = record s.core { rows = rows }; memory = s.memory; cycles = 0 } in x) (twice_bare s.core.rows);
}

module _ (i : Image) (s : State) (item : ℕ) (img : IsImage i) (h : IsConfigurationOf i s) where
  pub core_before : IsCore s.core
  core_before = config_core i s img h

  pub core_after : IsCore (turn_of s item).core
  core_after = turn_whole s.core (turn_of s item).core s.memory item core_before refl

  pub frame : LeavesTheRest s.core s.memory (turn_of s item)
  frame = turn_leaves s.core s.memory core_before.formed core_before.matched item

  pub same_identities : map identity_of (slots_of (turn_of s item).core) ≡ map identity_of (slots_of s.core)
  unfolding after
  same_identities = (after_state_of i s item img h.state).fits.same_slots ∙ sym h.state.fits.same_slots

  module _ (at : ℕ) (within : at < length (turn_of s item).core.rows) (number : (slot_in (turn_of s item).core at).number ≡ (turn_of s item).step.slot) where
    pub uncounted_core : with_slot (turn_of s item).core at (record (slot_in (turn_of s item).core at) { turns = 0 }) ≡ uncounted (turn_of s item).core
    uncounted_core = uncounted_is s h.bare item frame core_after at within number

    pub bare_core_whole : IsCore (uncounted (turn_of s item).core)
    bare_core_whole = subst IsCore uncounted_core (uncounted_whole (turn_of s item).core at within core_after)

    pub next_config : IsConfigurationOf i (configuration (after s item))
    unfolding after
    next_config = bare_config i (after s item) (after_state_of i s item img h.state) bare_core_whole
