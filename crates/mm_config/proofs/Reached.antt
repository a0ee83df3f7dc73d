-- A machine and a configuration that it reaches: cores of one image.
use Rattle.std.proofs.Common.{◌≡◌, ℕ, zero, suc, ◌+◌, ◌<◌, ◌≤◌, ◌^◌, List, [], ◌∷◌, map, length, slice_index_or, refl, sym, ap, ◌∙◌, subst, arith}
use Rattle.std.proofs.{lemmas.List.{get_or-map, length-map}, Math.Pow.pow_mono}
use Rattle.std.specs.Prelude.{zip}
use Rattle.mm_model.specs.{Slot.Slot, Image.Image, State.{ThreadRow, State}, Fits.{slots_of, identity_of, IsCore}, Spelling.IsImage}
use Rattle.mm_model.proofs.Fitted.{core_of}
use Rattle.mm_thread.specs.SlotIndices.{no_slot, no_row, slot_in}
use Rattle.mm_thread.proofs.{Revised.slots_many, RowIndex.{few_rows, small_numbers}}
use Rattle.mm_config.specs.declared.configs.Configs as code
use Rattle.mm_config.specs.declared.names.Names.{Names}
use Rattle.mm_config.specs.{Keeping.IsConfigurationOf, Reaching.Reaches}

pub config_core : (i : Image) (s : State) → IsImage i → IsConfigurationOf i s → IsCore s.core
config_core i s img h = core_of i s img h.state.state h.state.fits h.state.kept

-- 1. Pairs of slots.

pub pair_get : (xs ys : List Slot) (k : ℕ) → k < length xs → k < length ys → slice_index_or (zip xs ys) k (no_slot, no_slot) ≡ (slice_index_or xs k no_slot, slice_index_or ys k no_slot)
pair_get [] ys k lx ly = absurd (omega (arith, lx))
pair_get (x ∷ xs) [] k lx ly = absurd (omega (arith, ly))
pair_get (x ∷ xs) (y ∷ ys) zero lx ly = refl
pair_get (x ∷ xs) (y ∷ ys) (suc k) lx ly = pair_get xs ys k (omega (arith, lx)) (omega (arith, ly))

pub pairs_long : (xs ys : List Slot) → length xs ≡ length ys → length (zip xs ys) ≡ length xs
pairs_long [] ys e = refl
pairs_long (x ∷ xs) [] e = absurd (omega (arith, e))
pairs_long (x ∷ xs) (y ∷ ys) e = ap suc (pairs_long xs ys (omega (arith, e)))

-- 2. A configuration of an image.

module _ (i : Image) (s : State) (config : IsConfigurationOf i s) where
  pub slots_rows : length i.slots ≡ length s.core.rows
  slots_rows = slots_many i.slots s.core (sym config.state.fits.same_slots)

  pub pair_count : length (zip i.slots (slots_of s.core)) ≡ length i.slots
  pair_count = pairs_long i.slots (slots_of s.core) (slots_rows ∙ sym (length-map s.core.rows (λ (row : ThreadRow). row.slot)))

  pub pair_at : (p : ℕ) → p < length i.slots → slice_index_or (zip i.slots (slots_of s.core)) p (no_slot, no_slot) ≡ (slice_index_or i.slots p no_slot, slot_in s.core p)
  pair_at p lt =
      let rows = length-map s.core.rows (λ (row : ThreadRow). row.slot) in
      let many = slots_rows in
      pair_get i.slots (slots_of s.core) p lt (omega (arith, lt, many, rows))
      ∙ ap (λ x. (slice_index_or i.slots p no_slot, x)) (get_or-map (λ (row : ThreadRow). row.slot) s.core.rows p no_row no_slot (omega (arith, lt, many)))

  pub few_slots_of : IsImage i → length i.slots ≤ 64
  few_slots_of img =
      let core = config_core i s img config in
      let few = few_rows s.core core.formed.rising (small_numbers s.core core) in
      let many = slots_rows in
      omega (arith, many, few)

-- 3. Both.

module _ (wanted : Names) (c : code.Configs) (r : Reaches wanted c) where
  pub own : IsCore r.at.machine.core
  own = config_core r.image r.at.machine r.stands.image r.stands.machine.config

  pub aim : IsCore r.state.core
  aim = config_core r.image r.state r.stands.image r.config

  pub base_rows : length c.base.items ≡ length r.at.machine.core.rows
  base_rows = ap length r.stands.base ∙ slots_rows r.image r.at.machine r.stands.machine.config

  pub as_many : length r.at.machine.core.rows ≡ length r.state.core.rows
  as_many = sym (slots_rows r.image r.at.machine r.stands.machine.config) ∙ slots_rows r.image r.state r.config

  pub groups : length r.at.machine.core.outputs ≡ length r.state.core.outputs
  groups = own.formed.outputs ∙ sym aim.formed.outputs

  pub same_identities : map identity_of (slots_of r.at.machine.core) ≡ map identity_of (slots_of r.state.core)
  same_identities = r.stands.machine.config.state.fits.same_slots ∙ sym r.config.state.fits.same_slots

  pub few_base : length c.base.items ≤ 64
  few_base = subst (λ (l : List Slot). length l ≤ 64) (sym r.stands.base) (few_slots_of r.image r.at.machine r.stands.machine.config r.stands.image)

  pub room : 0 + 2 ^ c.depth < 2 ^ 64
  room = let low = r.stands.depth in let wide = pow_mono {i = c.depth} {j = 6} low in omega (arith, wide)
