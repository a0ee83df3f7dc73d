-- The slots in which two configurations differ.
use Rattle.std.proofs.Common.{◌≡◌, inl, inr, ℕ, suc, ◌<◌, ◌≤◌, Bool, true, false, List, [], ◌∷◌, length, slice_get, slice_index_or, Some, sym, ap, ◌∙◌, subst, arith}
use Rattle.std.proofs.lemmas.{List.{get_or-map, length-map}, Option.slice_get_within}
use Rattle.std.specs.Prelude.{zip}
use Rattle.mm_model.specs.{Slot.Slot, Image.Image, Flags.flags, State.{ThreadRow, State}, Fits.slots_of, Spelling.IsImage}
use Rattle.mm_model.proofs.Bytes.Bitmaps.{length-flags}
use Rattle.mm_thread.specs.SlotIndices.{no_slot, no_row, slot_in}
use Rattle.mm_pairs.specs.{Named.HaveOneName, Trees.{leaves, changed, IsTree}}
use Rattle.mm_config.specs.declared.store.Store.{Store}
use Rattle.mm_config.specs.{Keeping.{IsConfigurationOf, IsKeyOf}, Machines.{AreApart, IsApartBy}, Naming.{AreLeaves, leaf_at}, Reads.mask_of}
use Rattle.mm_config.proofs.{Masked.{IsMasked, IsChanged, changed_masked}, Reached.slots_rows, ReadSlots.{IsPairName, slot_left, slot_changed, one_slot_name}}

apart_at : (fs : List Bool) (xs ys : List Slot) → length fs ≡ length xs → length xs ≡ length ys
    → ((p : ℕ) → p < length xs → IsApartBy (slice_index_or fs p false) (slice_index_or xs p no_slot) (slice_index_or ys p no_slot)) → AreApart fs xs ys
apart_at [] [] [] l m h = tt
apart_at [] [] (y ∷ ys) l m h = absurd (omega (arith, m))
apart_at [] (x ∷ xs) ys l m h = absurd (omega (arith, l))
apart_at (f ∷ fs) [] ys l m h = absurd (omega (arith, l))
apart_at (f ∷ fs) (x ∷ xs) [] l m h = absurd (omega (arith, m))
apart_at (f ∷ fs) (x ∷ xs) (y ∷ ys) l m h = (h 0 (omega arith), apart_at fs xs ys (omega (arith, l)) (omega (arith, m)) (λ p lt. h (suc p) (omega (arith, lt))))

-- the changes of one key to another
abbrev pub key_changes : Store → (depth : ℕ) → (one other : ℕ × ℕ) → List (ℕ × ℕ)
key_changes k depth one other = changed 0 (leaves k.pairs depth one.0) (leaves k.pairs depth other.0)

module _ (i : Image) (k : Store) (depth : ℕ) (a s : State) (one other : ℕ × ℕ) (img : IsImage i) (ca : IsConfigurationOf i a) (cs : IsConfigurationOf i s)
    (ka : IsKeyOf i.slots depth k a one) (ks : IsKeyOf i.slots depth k s other) where
  na : AreLeaves (IsPairName k) (zip i.slots (slots_of a.core)) k.pairs depth one.0
  na = subst (AreLeaves (IsPairName k) (zip i.slots (slots_of a.core)) k.pairs depth) (sym ka.slots) ka.are.slots

  ns : AreLeaves (IsPairName k) (zip i.slots (slots_of s.core)) k.pairs depth other.0
  ns = subst (AreLeaves (IsPairName k) (zip i.slots (slots_of s.core)) k.pairs depth) (sym ks.slots) ks.are.slots

  pub trees : IsTree k.pairs depth one.0 × IsTree k.pairs depth other.0
  trees = (na.inner, ns.inner)

  pub inside : (j : ℕ) (e : ℕ × ℕ) → slice_get (key_changes k depth one other) j ≡ Some e → e.0 < length i.slots
  inside j e got = (slot_changed i k depth a s one.0 other.0 img ca cs na ns j e got).0

  pub are_apart : HaveOneName [] k.lists → length i.slots ≤ 64 → AreApart (flags (length i.slots) (mask_of (key_changes k depth one other))) (slots_of a.core) (slots_of s.core)
  are_apart once few =
      let so = changed_masked (key_changes k depth one other) (length i.slots) few inside in
      let rows_a = length-map a.core.rows (λ (row : ThreadRow). row.slot) in
      let rows_s = length-map s.core.rows (λ (row : ThreadRow). row.slot) in
      let many_a = slots_rows i a ca in
      let many_s = slots_rows i s cs in
      apart_at (flags (length i.slots) mask) (slots_of a.core) (slots_of s.core) (length-flags (length i.slots) mask ∙ many_a ∙ sym rows_a) (rows_a ∙ sym many_a ∙ many_s ∙ sym rows_s)
      (λ p within.
      let lt : p < length i.slots = omega (arith, within, rows_a, many_a) in
      let is_a = get_or-map (λ (row : ThreadRow). row.slot) a.core.rows p no_row no_slot (omega (arith, within, rows_a)) in
      let is_s = get_or-map (λ (row : ThreadRow). row.slot) s.core.rows p no_row no_slot (omega (arith, lt, many_s)) in
      subst (λ x. IsApartBy (slice_index_or (flags (length i.slots) mask) p false) x (slice_index_or (slots_of s.core) p no_slot)) (sym is_a)
      (subst (IsApartBy (slice_index_or (flags (length i.slots) mask) p false) (slot_in a.core p)) (sym is_s) (by p lt (so p lt))))
    where
      n : ℕ
      n = length (key_changes k depth one other)

      mask : ℕ
      mask = mask_of (key_changes k depth one other)

      set : (b : Bool) (x y : Slot) → b ≡ true → (x ≡ y → ⊥) → IsApartBy b x y
      set true x y e h = h
      set false x y e h = cc

      unset : (b : Bool) (x y : Slot) → b ≡ false → x ≡ y → IsApartBy b x y
      unset true x y e h = cc
      unset false x y e h = h

      by : (p : ℕ) → p < length i.slots → IsMasked (key_changes k depth one other) (IsChanged (key_changes k depth one other)) n (flags (length i.slots) mask) p
          → IsApartBy (slice_index_or (flags (length i.slots) mask) p false) (slot_in a.core p) (slot_in s.core p)
      by p lt (inl h) =
          let there = h.1 in
          let change = slot_changed i k depth a s one.0 other.0 img ca cs na ns there.0 there.1 there.2 in
          set (slice_index_or (flags (length i.slots) mask) p false) (slot_in a.core p) (slot_in s.core p) h.0 (λ same.
          change.2 (ap (leaf_at k.pairs depth one.0) there.3 ∙ one_slot_name i k depth a s one.0 other.0 img ca cs na ns once p lt same ∙ ap (leaf_at k.pairs depth other.0) (sym there.3)))
      by p lt (inr h) =
          unset (slice_index_or (flags (length i.slots) mask) p false) (slot_in a.core p) (slot_in s.core p) h.0
          (slot_left i k depth a s one.0 other.0 img ca cs na ns p lt (λ j e got same. let in_list = slice_get_within (key_changes k depth one other) j e got in h.1 j e in_list got same))
