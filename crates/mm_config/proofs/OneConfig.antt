-- Names are the same exactly if they are of one configuration.
use Rattle.std.proofs.Common.{◌≡◌, ℕ, zero, suc, reverse, List, [], ◌∷◌, map, length, slice_get, slice_index_or, Some, inl, inr, refl, sym, ap, ◌∙◌, subst, arith, T}
use Rattle.std.specs.{Prelude.zip, List.AllByRecursion, Ordering.nat_cmp, FinMap.{nat_cmp-IsAntisymmetric}, FinMap.Entries.same_entries}
use Rattle.std.proofs.lemmas.{Cmp.nat_cmp_total, Bool.cases_lt, List.{length-map, map-id}}
use Rattle.mm_model.specs.{Slot.Slot, Memory.{Memory, page_at}, Image.Image, State.{ThreadRow, Core, State}}
use Rattle.mm_model.specs.{Fits.{slots_of, identity_of}, Spelling.IsImage}
use Rattle.mm_pairs.specs.{Named.{IsNameOf}, Trees.IsTree}
use Rattle.mm_config.specs.declared.{store.Store.Store, names.Names.Names}
use Rattle.mm_config.specs.{Configurations.{uncounted_slot, uncounted_row, uncounted, configuration}, Forms.{slot_form, queue_form}, States.IsStateOf}
use Rattle.mm_config.specs.Naming.{IsSlotName, IsQueueName, IsOutputName, IsPageName, IsOrNone, leaf_at, page_name, AreNamesOf, IsKeptOnce, NamesAreOfOne}
use Rattle.mm_config.specs.Places.{page_place}
use Rattle.mm_config.proofs.{SlotForms.form_tells, EventForms.{IsKeptEvent, queue_tells}, Keepables.{IsKeepablePair, slots_kept, queues_kept}}
use Rattle.mm_config.proofs.NamedOnce.{all_got, maps_same, one_name, leaf_is, leaves_one, trees_same, outputs_tell, one_chain, pages_tell, one_page, heights_same}

-- 1. Slots beside the image's.

zip_got : {A B : Type 0} (xs : List A) (ys : List B) (at : ℕ) (p : A × B) → slice_get (zip xs ys) at ≡ Some p → slice_get xs at ≡ Some p.0
zip_got [] ys at p e = cc
zip_got (x ∷ xs) [] at p e = cc
zip_got {A} {B} (x ∷ xs) (y ∷ ys) zero p e = let same : (let q : A × B = (x, y) in q) ≡ p = cc in ap (λ (q : A × B). Some q.0) same
zip_got (x ∷ xs) (y ∷ ys) (suc at) p e = zip_got xs ys at p e

zip_second : (xs ys : List Slot) → length xs ≡ length ys → map (λ (p : Slot × Slot). uncounted_slot p.1) (zip xs ys) ≡ map uncounted_slot ys
zip_second [] [] e = refl
zip_second [] (y ∷ ys) e = absurd (omega (arith, e))
zip_second (x ∷ xs) [] e = absurd (omega (arith, e))
zip_second (x ∷ xs) (y ∷ ys) e = ap (λ l. uncounted_slot y ∷ l) (zip_second xs ys (omega (arith, e)))

zip_long : {A B : Type 0} (xs : List A) (ys : List B) → length xs ≡ length ys → length (zip xs ys) ≡ length xs
zip_long [] ys e = refl
zip_long (x ∷ xs) [] e = absurd (omega (arith, e))
zip_long (x ∷ xs) (y ∷ ys) e = ap suc (zip_long xs ys (omega (arith, e)))

as_many : (i : Image) (s : State) → IsStateOf i s → length i.slots ≡ length (slots_of s.core)
as_many i s h = sym (length-map i.slots identity_of) ∙ ap length (sym h.fits.same_slots) ∙ length-map (slots_of s.core) identity_of

form_bare : (b s : Slot) → slot_form b (uncounted_slot s) ≡ slot_form b s
unfolding slot_form
form_bare b s = refl

-- rows without counts, by their slots and their queues
rows_same : (xs ys : List ThreadRow) → map uncounted_slot (map (λ (r : ThreadRow). r.slot) xs) ≡ map uncounted_slot (map (λ (r : ThreadRow). r.slot) ys)
    → map (λ (r : ThreadRow). r.queue) xs ≡ map (λ (r : ThreadRow). r.queue) ys → map uncounted_row xs ≡ map uncounted_row ys
rows_same [] [] e q = refl
rows_same [] (y ∷ ys) e q = cc
rows_same (x ∷ xs) [] e q = cc
rows_same (x ∷ xs) (y ∷ ys) e q =
    let slot : uncounted_slot x.slot ≡ uncounted_slot y.slot = cc in
    let slots : map uncounted_slot (map (λ (r : ThreadRow). r.slot) xs) ≡ map uncounted_slot (map (λ (r : ThreadRow). r.slot) ys) = cc in
    let queue : x.queue ≡ y.queue = cc in
    let queues : map (λ (r : ThreadRow). r.queue) xs ≡ map (λ (r : ThreadRow). r.queue) ys = cc in
    let row : uncounted_row x ≡ uncounted_row y = λ j. record { slot = slot j; queue = queue j } in
    λ j. row j ∷ rows_same xs ys slots queues j

slots_back : (xs : List ThreadRow) → map uncounted_slot (map (λ (r : ThreadRow). r.slot) xs) ≡ map (λ (r : ThreadRow). r.slot) (map uncounted_row xs)
slots_back [] = refl
slots_back (x ∷ xs) = ap (λ l. uncounted_slot x.slot ∷ l) (slots_back xs)

queues_back : (xs : List ThreadRow) → map (λ (r : ThreadRow). r.queue) xs ≡ map (λ (r : ThreadRow). r.queue) (map uncounted_row xs)
queues_back [] = refl
queues_back (x ∷ xs) = ap (λ l. x.queue ∷ l) (queues_back xs)

got_map : {A B : Type 0} (f : A → B) (xs : List A) (at : ℕ) (x : A) → slice_get xs at ≡ Some x → slice_get (map f xs) at ≡ Some (f x)
got_map f [] at x e = cc
got_map {A} f (y ∷ xs) zero x e = let same : y ≡ x = cc in ap (λ z. Some (f z)) same
got_map f (y ∷ xs) (suc at) x e = got_map f xs at x e

module _ (i : Image) (depth : ℕ) (k : Store) (a b : State) (n m : Names) (img : IsImage i) (once : IsKeptOnce k)
    (ha : IsStateOf i a) (hb : IsStateOf i b) (na : AreNamesOf i.slots depth k a n) (nb : AreNamesOf i.slots depth k b m) where
  abbrev Is : Slot × Slot → ℕ → Type 0
  Is x name = IsSlotName k x.0 x.1 name

  abbrev IsQueue : ThreadRow → ℕ → Type 0
  IsQueue row name = IsQueueName k row.queue name

  abbrev ours : List (Slot × Slot)
  ours = zip i.slots (slots_of a.core)

  abbrev theirs : List (Slot × Slot)
  theirs = zip i.slots (slots_of b.core)

  base_same : (at : ℕ) (x y : Slot × Slot) → slice_get ours at ≡ Some x → slice_get theirs at ≡ Some y → x.0 ≡ y.0
  base_same at x y p q =
      let one = zip_got i.slots (slots_of a.core) at x p in
      let two = zip_got i.slots (slots_of b.core) at y q in
      cc

  longs : length ours ≡ length theirs
  longs = zip_long i.slots (slots_of a.core) (as_many i a ha) ∙ sym (zip_long i.slots (slots_of b.core) (as_many i b hb))

  rows_long : length a.core.rows ≡ length b.core.rows
  rows_long =
      sym (length-map a.core.rows (λ (r : ThreadRow). r.slot)) ∙ sym (as_many i a ha) ∙ as_many i b hb ∙ length-map b.core.rows (λ (r : ThreadRow). r.slot)

  outputs_long : length a.core.outputs ≡ length b.core.outputs
  outputs_long = ha.state.core.outputs ∙ sym hb.state.core.outputs

  -- 2. What has the same names is the same.
  module _ (e : n.slots ≡ m.slots) where
    same_slots : map uncounted_slot (slots_of a.core) ≡ map uncounted_slot (slots_of b.core)
    same_slots =
        sym (zip_second i.slots (slots_of a.core) (as_many i a ha))
        ∙ maps_same (λ (p : Slot × Slot). uncounted_slot p.1) ours theirs longs (λ at x y p q.
        let base = base_same at x y p q in
        let one = leaf_is Is k.pairs depth n.slots ours na.slots at x p in
        let two = leaf_is Is k.pairs depth m.slots theirs nb.slots at y q in
        let leaf = ap (λ tree. leaf_at k.pairs depth tree at) e in
        let form : slot_form x.0 x.1 ≡ slot_form y.0 y.1 = sym (subst (λ l. IsNameOf [] k.lists l (slot_form x.0 x.1)) leaf one).is ∙ two.is in
        let keeps = all_got IsKeepablePair ours (slots_kept i a img ha) at x p in
        let kept = all_got IsKeepablePair theirs (slots_kept i b img hb) at y q in
        form_tells y.0 (uncounted_slot x.1) (uncounted_slot y.1) (subst (λ (s : Slot). IsKeepablePair (s, x.1)) base keeps) kept
        (form_bare y.0 x.1 ∙ ap (λ (s : Slot). slot_form s x.1) (sym base) ∙ form ∙ sym (form_bare y.0 y.1)))
        ∙ zip_second i.slots (slots_of b.core) (as_many i b hb)

  module _ (e : n.queues ≡ m.queues) where
    pub same_queues : map (λ (r : ThreadRow). r.queue) a.core.rows ≡ map (λ (r : ThreadRow). r.queue) b.core.rows
    same_queues = maps_same (λ (r : ThreadRow). r.queue) a.core.rows b.core.rows rows_long (λ at x y p q.
        let one = leaf_is IsQueue k.pairs depth n.queues a.core.rows na.queues at x p in
        let two = leaf_is IsQueue k.pairs depth m.queues b.core.rows nb.queues at y q in
        let leaf = ap (λ tree. leaf_at k.pairs depth tree at) e in
        queue_tells x.queue y.queue
        (all_got (λ (r : ThreadRow). AllByRecursion IsKeptEvent r.queue) a.core.rows (queues_kept i a ha) at x p)
        (all_got (λ (r : ThreadRow). AllByRecursion IsKeptEvent r.queue) b.core.rows (queues_kept i b hb) at y q)
        (sym (subst (λ l. IsNameOf [] k.lists l (queue_form x.queue)) leaf one).is ∙ two.is))

  module _ (e : n.outputs ≡ m.outputs) where
    pub same_outputs : a.core.outputs ≡ b.core.outputs
    same_outputs =
        let all = maps_same (λ (o : List ℕ). o) a.core.outputs b.core.outputs outputs_long (λ at x y p q.
        let one = leaf_is (IsOutputName k) k.pairs 6 n.outputs a.core.outputs na.outputs at x p in
        let two = leaf_is (IsOutputName k) k.pairs 6 m.outputs b.core.outputs nb.outputs at y q in
        let leaf = ap (λ tree. leaf_at k.pairs 6 tree at) e in
        outputs_tell k x y (leaf_at k.pairs 6 m.outputs at) (subst (IsOutputName k x) leaf one) two) in
        sym (map-id a.core.outputs) ∙ all ∙ map-id b.core.outputs

  module _ (high : n.height ≡ m.height) (pages : n.pages ≡ m.pages) where
    same_pages : a.memory.pages ≡ b.memory.pages
    same_pages = same_entries nat_cmp nat_cmp_total nat_cmp-IsAntisymmetric a.memory.pages b.memory.pages (subst T (sym ha.state.pages.rising) tt) (subst T (sym hb.state.pages.rising) tt) (λ number.
        let leaf : page_name k n number ≡ page_name k m number = λ j. leaf_at k.pairs (high j) (pages j) (page_place k.pages number) in
        pages_tell k (page_name k m number) (page_at a.memory number) (page_at b.memory number)
        (subst (IsOrNone (IsPageName k) (page_at a.memory number)) leaf (na.memory.pages number)) (nb.memory.pages number))

    pub same_memory : a.memory ≡ b.memory
    same_memory = let frames = ha.fits.frames ∙ sym hb.fits.frames in λ j. record { pages = same_pages j; frames = frames j }

  module _ (e : n ≡ m) where
    pub one_configuration : configuration a ≡ configuration b
    unfolding configuration
    one_configuration =
        let rows = rows_same a.core.rows b.core.rows (same_slots (ap (λ (v : Names). v.slots) e)) (same_queues (ap (λ (v : Names). v.queues) e)) in
        let outputs = same_outputs (ap (λ (v : Names). v.outputs) e) in
        let memory = same_memory (ap (λ (v : Names). v.height) e) (ap (λ (v : Names). v.pages) e) in
        let version = ha.fits.version ∙ sym hb.fits.version in
        let split = ha.fits.split ∙ sym hb.fits.split in
        λ j. record {
          core = record { rows = rows j; outputs = outputs j; version = version j; split = split j };
          memory = memory j;
          cycles = 0;
        }

  -- 3. What is the same has the same names.
  module _ (e : configuration a ≡ configuration b) where
    core_same : uncounted a.core ≡ uncounted b.core
    unfolding configuration
    core_same = ap (λ (s : State). s.core) e

    memory_same : a.memory ≡ b.memory
    unfolding configuration
    memory_same = ap (λ (s : State). s.memory) e

    slots_alike : map uncounted_slot (slots_of a.core) ≡ map uncounted_slot (slots_of b.core)
    slots_alike = slots_back a.core.rows ∙ ap (λ (c : Core). map (λ (r : ThreadRow). r.slot) c.rows) core_same ∙ sym (slots_back b.core.rows)

    queues_alike : map (λ (r : ThreadRow). r.queue) a.core.rows ≡ map (λ (r : ThreadRow). r.queue) b.core.rows
    queues_alike = queues_back a.core.rows ∙ ap (λ (c : Core). map (λ (r : ThreadRow). r.queue) c.rows) core_same ∙ sym (queues_back b.core.rows)

    outputs_alike : a.core.outputs ≡ b.core.outputs
    outputs_alike = ap (λ (c : Core). c.outputs) core_same

    pairs_alike : map (λ (p : Slot × Slot). uncounted_slot p.1) ours ≡ map (λ (p : Slot × Slot). uncounted_slot p.1) theirs
    pairs_alike = zip_second i.slots (slots_of a.core) (as_many i a ha) ∙ slots_alike ∙ sym (zip_second i.slots (slots_of b.core) (as_many i b hb))

    name_slots : n.slots ≡ m.slots
    name_slots = leaves_one Is k.pairs depth once.pairs n.slots m.slots ours theirs longs na.slots nb.slots (λ at x y p q one two h g.
        let base = base_same at x y p q in
        let left = got_map (λ (r : Slot × Slot). uncounted_slot r.1) ours at x p in
        let right = got_map (λ (r : Slot × Slot). uncounted_slot r.1) theirs at y q in
        let here = ap (λ l. slice_get l at) pairs_alike in
        let slot : uncounted_slot x.1 ≡ uncounted_slot y.1 = cc in
        one_name [] k.lists once.lists one two (slot_form x.0 x.1) (slot_form y.0 y.1) h g
        (sym (form_bare x.0 x.1) ∙ (λ j. slot_form (base j) (slot j)) ∙ form_bare y.0 y.1))

    name_queues : n.queues ≡ m.queues
    name_queues = leaves_one IsQueue k.pairs depth once.pairs n.queues m.queues a.core.rows b.core.rows rows_long na.queues nb.queues (λ at x y p q one two h g.
        let left = got_map (λ (r : ThreadRow). r.queue) a.core.rows at x p in
        let right = got_map (λ (r : ThreadRow). r.queue) b.core.rows at y q in
        let here = ap (λ l. slice_get l at) queues_alike in
        let queue : x.queue ≡ y.queue = cc in
        one_name [] k.lists once.lists one two (queue_form x.queue) (queue_form y.queue) h g (ap queue_form queue))

    name_outputs : n.outputs ≡ m.outputs
    name_outputs = leaves_one (IsOutputName k) k.pairs 6 once.pairs n.outputs m.outputs a.core.outputs b.core.outputs outputs_long na.outputs nb.outputs (λ at x y p q one two h g.
        let here = ap (λ l. slice_get l at) outputs_alike in
        let same : x ≡ y = cc in
        one_chain k.outputs once.outputs (reverse y) one two (subst (λ o. IsOutputName k o one) same h) g)

    leaf_alike : (at : ℕ) → leaf_at k.pairs n.height n.pages at ≡ leaf_at k.pairs m.height m.pages at
    leaf_alike at = elim (cases_lt at (length k.pages)) [
      | inl low ↦
          let number = slice_index_or k.pages at 0 in
          let place = once.pages at low in
          let one = na.memory.pages number in
          let two = nb.memory.pages number in
          ap (leaf_at k.pairs n.height n.pages) (sym place)
          ∙ one_page k once.pairs once.cells (page_at b.memory number) (page_name k n number) (page_name k m number)
          (subst (λ (v : Memory). IsOrNone (IsPageName k) (page_at v number) (page_name k n number)) memory_same one) two
          ∙ ap (leaf_at k.pairs m.height m.pages) place
      | inr high ↦ na.memory.tree.inside at high ∙ sym (nb.memory.tree.inside at high)
    ]

    name_height : n.height ≡ m.height
    name_height = heights_same k.pairs once.pairs n.height m.height n.pages m.pages na.memory.tree.inner nb.memory.tree.inner na.memory.tree.low nb.memory.tree.low leaf_alike

    name_pages : n.pages ≡ m.pages
    name_pages =
        trees_same k.pairs once.pairs m.height n.pages m.pages (subst (λ d. IsTree k.pairs d n.pages) name_height na.memory.tree.inner) nb.memory.tree.inner
        (λ at. ap (λ d. leaf_at k.pairs d n.pages at) (sym name_height) ∙ leaf_alike at)

    pub one_names : n ≡ m
    one_names = λ j. record { slots = name_slots j; queues = name_queues j; outputs = name_outputs j; height = name_height j; pages = name_pages j }

pub names_are_of_one : NamesAreOfOne
names_are_of_one i depth k a b n m img once ha hb na nb =
    (one_configuration i depth k a b n m img once ha hb na nb, one_names i depth k a b n m img once ha hb na nb)
