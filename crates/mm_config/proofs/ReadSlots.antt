-- Reading the slots whose names differ.
use Rattle.std.proofs.Common.{◌≡◌, inl, inr, ℕ, zero, suc, ◌+◌, ◌<◌, ◌≤◌, Bool, true, false, List, [], ◌∷◌, map, length, slice_get, slice_set, slice_index_or, take, if◌then◌else◌, Some, refl, sym, ap, ◌∙◌, subst, arith}
use Rattle.std.proofs.lemmas.{List.{get_or-set_same, get_or-set_other, get_or-map, length-map, length-set, take_all, Sums.fold_more}, Option.{slice_get_within, get_or_from_slice_get}}
use Rattle.std.specs.List.{AllByRecursion}
use Rattle.std.specs.Prelude.{zip}
use Rattle.mm_model.specs.{Slot.Slot, Image.Image, Flags.flags, State.{ThreadRow, Core, State}, Fits.{slots_of, identity_of}, Spelling.IsImage}
use Rattle.mm_model.proofs.CoreRows.{each_get}
use Rattle.mm_thread.specs.SlotIndices.{no_slot, no_row, slot_in}
use Rattle.mm_pairs.specs.{Named.{named, HaveOneName}, Trees.{leaves, changed}}
use Rattle.mm_config.specs.declared.configs.Configs as code
use Rattle.mm_config.specs.declared.{store.Store.Store, names.Names.Names}
use Rattle.mm_config.specs.{Configurations.{uncounted_slot, uncounted_row, configuration}, Forms.{slot_form, slot_from}, Keeping.IsConfigurationOf}
use Rattle.mm_config.specs.{Reaching.{Reaches, KeepsAll, HasReadSlots}, Naming.{AreLeaves, IsSlotName, leaf_at}, Reads.{mask_of, slots_read}}
use Rattle.mm_config.proofs.{NamedOnce.one_name, ChangedLeaves.{leaf_named, entry, left, all_at}, Reached.{slots_rows, pair_count, pair_at, few_base}, Masked.{IsMasked, AreMasked, all_masked}, Keepables.{IsKeepablePair, slots_kept}, SlotForms.{IsKeepable, slot_read, form_tells}}

abbrev pub slot_changes : Names → code.Configs → List (ℕ × ℕ)
slot_changes wanted c = changed 0 (leaves c.store.pairs c.depth c.names.slots) (leaves c.store.pairs c.depth wanted.slots)

-- 1. The slots of a configuration.

module _ (i : Image) (s : State) (img : IsImage i) (config : IsConfigurationOf i s) where
  bare_at : (p : ℕ) → p < length i.slots → uncounted_slot (slot_in s.core p) ≡ slot_in s.core p
  unfolding configuration
  bare_at p lt =
      let many = slots_rows i s config in
      sym (ap (λ (row : ThreadRow). row.slot) (get_or-map uncounted_row s.core.rows p no_row no_row (omega (arith, lt, many))))
      ∙ ap (λ (x : State). slot_in x.core p) config.bare

  keeps_at : (p : ℕ) → p < length i.slots → IsKeepable (slice_index_or i.slots p no_slot) (slot_in s.core p)
  keeps_at p lt =
      let all = pair_count i s config in
      subst (IsKeepable (slice_index_or i.slots p no_slot)) (bare_at p lt)
      (subst IsKeepablePair (pair_at i s config p lt) (each_get IsKeepablePair (zip i.slots (slots_of s.core)) p (no_slot, no_slot) (slots_kept i s img config.state) (omega (arith, lt, all))))

  -- what is read of its form is the slot
  slot_back : (p : ℕ) → p < length i.slots → slot_from (slice_index_or i.slots p no_slot) (slot_form (slice_index_or i.slots p no_slot) (slot_in s.core p)) ≡ slot_in s.core p
  slot_back p lt = slot_read (slice_index_or i.slots p no_slot) (slot_in s.core p) (keeps_at p lt) ∙ bare_at p lt

-- 2. The slots of two configurations.

abbrev pub IsPairName : Store → Slot × Slot → ℕ → Type 0
IsPairName k x name = IsSlotName k x.0 x.1 name

module _ (i : Image) (k : Store) (depth : ℕ) (a s : State) (n m : ℕ) (img : IsImage i) (ca : IsConfigurationOf i a) (cs : IsConfigurationOf i s)
    (na : AreLeaves (IsPairName k) (zip i.slots (slots_of a.core)) k.pairs depth n) (ns : AreLeaves (IsPairName k) (zip i.slots (slots_of s.core)) k.pairs depth m) where
  named_at : (x : State) (t : ℕ) → IsConfigurationOf i x → AreLeaves (IsPairName k) (zip i.slots (slots_of x.core)) k.pairs depth t → (p : ℕ) → p < length i.slots
      → IsSlotName k (slice_index_or i.slots p no_slot) (slot_in x.core p) (leaf_at k.pairs depth t p)
  named_at x t cx nx p lt =
      let all = pair_count i x cx in
      subst (λ (y : Slot × Slot). IsSlotName k y.0 y.1 (leaf_at k.pairs depth t p)) (pair_at i x cx p lt)
      (leaf_named (IsPairName k) (no_slot, no_slot) (zip i.slots (slots_of x.core)) k.pairs depth t nx p (omega (arith, lt, all)))

  -- slots of one name are the same, and the same slots have one name
  pub slot_alike : (p : ℕ) → p < length i.slots → leaf_at k.pairs depth n p ≡ leaf_at k.pairs depth m p → slot_in a.core p ≡ slot_in s.core p
  slot_alike p lt same =
      let base = slice_index_or i.slots p no_slot in
      let forms : slot_form base (slot_in a.core p) ≡ slot_form base (slot_in s.core p) = sym (named_at a n ca na p lt).is ∙ ap (named [] k.lists) same ∙ (named_at s m cs ns p lt).is in
      sym (bare_at i a img ca p lt) ∙ form_tells base (slot_in a.core p) (slot_in s.core p) (keeps_at i a img ca p lt) (keeps_at i s img cs p lt) forms ∙ bare_at i s img cs p lt

  pub one_slot_name : HaveOneName [] k.lists → (p : ℕ) → p < length i.slots → slot_in a.core p ≡ slot_in s.core p → leaf_at k.pairs depth n p ≡ leaf_at k.pairs depth m p
  one_slot_name once p lt same =
      let base = slice_index_or i.slots p no_slot in
      one_name [] k.lists once (leaf_at k.pairs depth n p) (leaf_at k.pairs depth m p) (slot_form base (slot_in a.core p)) (slot_form base (slot_in s.core p)) (named_at a n ca na p lt) (named_at s m cs ns p lt)
      (ap (slot_form base) same)

  pairs_alike : length (zip i.slots (slots_of a.core)) ≡ length (zip i.slots (slots_of s.core))
  pairs_alike = pair_count i a ca ∙ sym (pair_count i s cs)

  -- a change is to the name of a slot, which is not the same
  pub slot_changed : (j : ℕ) (e : ℕ × ℕ) → slice_get (changed 0 (leaves k.pairs depth n) (leaves k.pairs depth m)) j ≡ Some e
      → (e.0 < length i.slots) × IsSlotName k (slice_index_or i.slots e.0 no_slot) (slot_in s.core e.0) e.1 × (leaf_at k.pairs depth n e.0 ≡ leaf_at k.pairs depth m e.0 → ⊥)
  slot_changed j e got =
      let h = entry (IsPairName k) (no_slot, no_slot) (zip i.slots (slots_of a.core)) (zip i.slots (slots_of s.core)) k.pairs depth n m na ns pairs_alike j e got in
      let inside = h.0 in
      let all = pair_count i s cs in
      let lt : e.0 < length i.slots = omega (arith, inside, all) in
      (lt, subst (λ (x : Slot × Slot). IsSlotName k x.0 x.1 e.1) (pair_at i s cs e.0 lt) h.1, h.2)

  -- where nothing changes the slot is the same
  pub slot_left : (p : ℕ) → p < length i.slots → ((j : ℕ) (e : ℕ × ℕ) → slice_get (changed 0 (leaves k.pairs depth n) (leaves k.pairs depth m)) j ≡ Some e → e.0 ≡ p → ⊥) → slot_in a.core p ≡ slot_in s.core p
  slot_left p lt none =
      let all = pair_count i s cs in
      elim (left (IsPairName k) (no_slot, no_slot) (zip i.slots (slots_of a.core)) (zip i.slots (slots_of s.core)) k.pairs depth n m na ns pairs_alike p (omega (arith, lt, all))) [
        | inl h ↦ absurd (none h.0 (p, leaf_at k.pairs depth m p) h.1 refl)
        | inr same ↦ slot_alike p lt same
      ]

-- 3. Each change is to a slot that is wanted.

module _ (wanted : Names) (c : code.Configs) (r : Reaches wanted c) where
  -- a change, and the slot that is wanted at its place
  pub record SlotEntry (e : ℕ × ℕ) : Type 0 where
    pub within : e.0 < length c.base.items
    pub name : e.1 ≤ length c.store.lists
    pub is : slot_from (slice_index_or c.base.items e.0 no_slot) (named [] c.store.lists e.1) ≡ slot_in r.state.core e.0

  pub slot_entry : (j : ℕ) (e : ℕ × ℕ) → slice_get (slot_changes wanted c) j ≡ Some e → SlotEntry e
  slot_entry j e got =
      let i = r.image in
      let s = r.state in
      let own = r.stands.machine.config in
      let h = slot_changed i c.store c.depth r.at.machine s c.names.slots wanted.slots r.stands.image own r.config r.stands.named.names.slots r.names.slots j e got in
      record {
        within = subst (λ (l : List Slot). e.0 < length l) (sym r.stands.base) h.0;
        name = h.1.within;
        is = subst (λ (l : List Slot). slot_from (slice_index_or l e.0 no_slot) (named [] c.store.lists e.1) ≡ slot_in s.core e.0) (sym r.stands.base)
            (ap (slot_from (slice_index_or i.slots e.0 no_slot)) h.1.is ∙ slot_back i s r.stands.image r.config e.0 h.0);
      }

  pub slot_stays : (p : ℕ) → p < length c.base.items → ((j : ℕ) (e : ℕ × ℕ) → slice_get (slot_changes wanted c) j ≡ Some e → e.0 ≡ p → ⊥) → slot_in c.core p ≡ slot_in r.state.core p
  slot_stays p within none =
      ap (λ (k : Core). slot_in k p) r.stands.machine.core
      ∙ slot_left r.image c.store c.depth r.at.machine r.state c.names.slots wanted.slots r.stands.image r.stands.machine.config r.config r.stands.named.names.slots r.names.slots p
      (subst (λ (l : List Slot). p < length l) r.stands.base within) none

-- 4. All slots.

-- an index past the end, under a map
at_map : {A B : Type 0} (f : A → B) (xs : List A) (p : ℕ) (d : A) → slice_index_or (map f xs) p (f d) ≡ f (slice_index_or xs p d)
at_map f [] p d = refl
at_map f (x ∷ xs) zero d = refl
at_map f (x ∷ xs) (suc p) d = at_map f xs p d

identities_set : (slots : List Slot) (p : ℕ) (x : Slot) → identity_of x ≡ identity_of (slice_index_or slots p no_slot) → map identity_of (slice_set slots p x) ≡ map identity_of slots
identities_set [] p x e = refl
identities_set (y ∷ slots) zero x e = ap (λ id. id ∷ map identity_of slots) e
identities_set (y ∷ slots) (suc p) x e = ap (λ l. identity_of y ∷ l) (identities_set slots p x e)

-- what is read of a base has its identity
read_identity : (base : Slot) (ns : List ℕ) → identity_of (slot_from base ns) ≡ identity_of base
unfolding slot_from
read_identity base ns = refl

module _ (lists : List (List ℕ)) (base : List Slot) where
  -- there are as many slots, with the identities that they had
  identities : (changes : List (ℕ × ℕ)) (slots : List Slot) → map identity_of slots ≡ map identity_of base → map identity_of (slots_read lists base changes slots) ≡ map identity_of base
  identities [] slots same = same
  identities (e ∷ changes) slots same =
      let made = slot_from (slice_index_or base e.0 no_slot) (named [] lists e.1) in
      let identity : identity_of made ≡ identity_of (slice_index_or slots e.0 no_slot) =
      read_identity (slice_index_or base e.0 no_slot) (named [] lists e.1) ∙ sym (at_map identity_of base e.0 no_slot) ∙ ap (λ l. slice_index_or l e.0 (identity_of no_slot)) (sym same) ∙ at_map identity_of slots e.0 no_slot in
      identities changes (slice_set slots e.0 made) (identities_set slots e.0 made identity ∙ same)

  read_long : (changes : List (ℕ × ℕ)) (slots : List Slot) → length (slots_read lists base changes slots) ≡ length slots
  read_long [] slots = refl
  read_long (e ∷ changes) slots =
      let made = slot_from (slice_index_or base e.0 no_slot) (named [] lists e.1) in
      read_long changes (slice_set slots e.0 made) ∙ length-set slots e.0 made

module _ (wanted : Names) (c : code.Configs) (r : Reaches wanted c) where
  pub kept_slots : AllByRecursion (λ (e : ℕ × ℕ). (e.0 < length c.base.items) × (e.1 ≤ length c.store.lists)) (slot_changes wanted c)
  kept_slots = all_at (λ (e : ℕ × ℕ). (e.0 < length c.base.items) × (e.1 ≤ length c.store.lists)) (slot_changes wanted c) (λ j e got. let h = slot_entry wanted c r j e got in (h.within, h.name))

  pub few_places : AllByRecursion (λ (e : ℕ × ℕ). e.0 < 64) (slot_changes wanted c)
  few_places = all_at (λ (e : ℕ × ℕ). e.0 < 64) (slot_changes wanted c) (λ j e got. let low = (slot_entry wanted c r j e got).within in let few = few_base wanted c r in omega (arith, low, few))

  pub as_many_slots : length c.slots.items ≡ length c.base.items
  as_many_slots = sym (length-map c.slots.items identity_of) ∙ ap length r.stands.room ∙ length-map r.image.slots identity_of ∙ ap length (sym r.stands.base)

  -- the slots after the first changes
  abbrev after : ℕ → List Slot
  after n = slots_read c.store.lists c.base.items (take n (slot_changes wanted c)) c.slots.items

  abbrev made : ℕ × ℕ → Slot
  made e = slot_from (slice_index_or c.base.items e.0 no_slot) (named [] c.store.lists e.1)

  abbrev IsReadAt : ℕ → ℕ → Type 0
  IsReadAt n p = slice_index_or (after n) p no_slot ≡ slot_in r.state.core p

  step : (n : ℕ) (e : ℕ × ℕ) → slice_get (slot_changes wanted c) n ≡ Some e → after (n + 1) ≡ slice_set (after n) e.0 (made e)
  step n e got =
      let changes = slot_changes wanted c in
      let is = get_or_from_slice_get changes n e (0, 0) got in
      fold_more (λ (now : List Slot) (x : ℕ × ℕ). slice_set now x.0 (slot_from (slice_index_or c.base.items x.0 no_slot) (named [] c.store.lists x.1))) c.slots.items changes n (0, 0)
      (slice_get_within changes n e got)
      ∙ ap (λ (x : ℕ × ℕ). slice_set (after n) x.0 (made x)) is

  pub slots_are_read : (now : code.Configs) → now.slots.items ≡ slots_read c.store.lists c.base.items (slot_changes wanted c) c.slots.items → KeepsAll c now
      → HasReadSlots r.state.core c now (mask_of (slot_changes wanted c))
  slots_are_read now is others = record {
    slots = λ p lt. by p lt (so p lt);
    room =
        ap (map identity_of) is
        ∙ identities c.store.lists c.base.items (slot_changes wanted c) c.slots.items (r.stands.room ∙ ap (map identity_of) (sym r.stands.base)) ∙ ap (map identity_of) r.stands.base ∙ sym r.stands.room;
    others = others;
  }
    where
      changes : List (ℕ × ℕ)
      changes = slot_changes wanted c

      set : List Bool
      set = flags (length c.base.items) (mask_of changes)

      so : AreMasked changes (IsReadAt (length changes)) (length c.base.items) (length changes) (mask_of changes)
      so = all_masked changes IsReadAt (length c.base.items) (few_base wanted c r) (λ j e got. (slot_entry wanted c r j e got).within)
          (λ n p e got ne was. ap (λ l. slice_index_or l p no_slot) (step n e got) ∙ get_or-set_other (after n) e.0 p (made e) no_slot ne ∙ was)
          (λ n e got.
          let h = slot_entry wanted c r n e got in
          let low = h.within in
          let long = read_long c.store.lists c.base.items (take n changes) c.slots.items in
          let many = as_many_slots in
          ap (λ l. slice_index_or l e.0 no_slot) (step n e got) ∙ get_or-set_same (after n) e.0 (made e) no_slot (omega (arith, low, long, many)) ∙ h.is)

      all : after (length changes) ≡ now.slots.items
      all = ap (λ l. slots_read c.store.lists c.base.items l c.slots.items) (take_all (length changes) changes (omega arith)) ∙ sym is

      pick : (b : Bool) (x y z : Slot) → b ≡ true → x ≡ z → (if b then x else y) ≡ z
      pick true x y z e h = h
      pick false x y z e h = cc

      leave : (b : Bool) (x y z : Slot) → b ≡ false → y ≡ z → (if b then x else y) ≡ z
      leave true x y z e h = cc
      leave false x y z e h = h

      by : (p : ℕ) → p < length c.base.items → IsMasked changes (IsReadAt (length changes)) (length changes) set p
          → (if slice_index_or set p false then slice_index_or now.slots.items p no_slot else slot_in c.core p) ≡ slot_in r.state.core p
      by p lt (inl h) =
          pick (slice_index_or set p false) (slice_index_or now.slots.items p no_slot) (slot_in c.core p) (slot_in r.state.core p) h.0 (ap (λ l. slice_index_or l p no_slot) (sym all) ∙ h.1)
      by p lt (inr h) =
          leave (slice_index_or set p false) (slice_index_or now.slots.items p no_slot) (slot_in c.core p) (slot_in r.state.core p) h.0
          (slot_stays wanted c r p lt (λ j e got same. h.1 j e (slice_get_within changes j e got) got same))
