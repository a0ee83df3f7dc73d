-- A machine at its start, of which all is noted.
use Rattle.std.proofs.Common.{◌≡◌, ◌⊎◌, inl, inr, Vec, Global, ℕ, ◌<◌, ◌≤◌, ◌^◌, Bool, List, [], ◌∷◌, map, length, replicate, slice_get, slice_index_or, Option, Some, refl, sym, ap, ◌∙◌, subst, arith}
use Rattle.std.proofs.Math.Seq.{take-length}
use Rattle.std.proofs.lemmas.{Bool.cases_lt, List.{length-map, length-replicate, get_or-map}, Option.{slice_get-get_or, slice_get_past}}
use Rattle.std.specs.{Prelude.zip, List.{AllByRecursion, AllZip}, Ordering.nat_cmp, FinMap.find}
use Rattle.mm_word.specs.declared.word.Cell.{Cell}
use Rattle.mm_model.specs.{Slot.Slot, Image.{Image, slot_limit, start}, State.{ThreadRow, Core, State}}
use Rattle.mm_model.specs.{Spelling.{IsFresh, IsImage}, Fits.{slots_of, identity_of, IsCore, IsOfVersion}}
use Rattle.mm_model.proofs.{CoreRows.{each_map, slot_limit-few}, Fitted.core_of, Starts.{start_slots, nothing_out}}
use Rattle.mm_pairs.specs.Trees.{IsTree}
use Rattle.mm_thread.specs.SlotIndices.{no_slot, no_row, row_alone, slot_in}
use Rattle.mm_thread.proofs.Fresh.{each_nothing}
use Rattle.mm_config.specs.declared.configs.Configs as code
use Rattle.mm_config.specs.declared.configs.Looked.{Looked, TheVariants.{Known, New, Full}}
use Rattle.mm_config.specs.declared.{store.Store.Store, names.Names.Names}
use Rattle.mm_config.specs.{Configurations.{uncounted_row, uncounted, configuration}, Machines.{Configs, Keeps}, Places.page_place}
use Rattle.mm_config.specs.Naming.{AreNamesOf, AreMemoryNames, AreLeaves, IsOrNone, IsRest, IsSlotName, IsQueueName, IsOutputName, leaf_at}
use Rattle.mm_config.specs.{Noting.{IsKeptStill, HasOtherPages, mapped_pages}, Keeping.{Stands, IsConfigurationOf, IsKeyOf}, Turning.{HasStarted, HasTrees, IsSlotNamed, NotesSlots}}
use Rattle.mm_config.proofs.{NextState.bare_config, NotedTurn.{zip_get, zip_long, slots_at, slots_long}, States.start_state_of, StartNames.zero_leaves, Noted.{twice, alike}, PageTrees.{none_tree, none_at}}
use Rattle.mm_config.proofs.Staying.{leaves_stay_named, slot_stays, memory_stays}

-- 1. The core of an image at its start.

below : (n m : ℕ) → n < m → m ≤ 64 → n < 64
below n m lt le = omega (arith, lt, le)

-- the slots of an image stand in a core of any version
pub fresh_slots : (i : Image) → IsImage i → AllByRecursion (IsFresh 64 i.slots) i.slots
fresh_slots i h =
    each_map (IsFresh (slot_limit i.version) i.slots) (IsFresh 64 i.slots) (λ s k. record {
      number = below s.number (slot_limit i.version) k.number (slot_limit-few i.version);
      group = below s.group (slot_limit i.version) k.group (slot_limit-few i.version);
      handler = k.handler;
      begins = k.begins;
      executable = k.executable;
      ip = k.ip;
      registers = k.registers;
      words = k.words;
      past = k.past;
      turns = k.turns;
      empty = k.empty;
      pending = k.pending;
    }) i.slots h.fresh

pub few_slots : (i : Image) → IsImage i → length i.slots ≤ 64
few_slots i h = let few = h.few_slots in let limit = slot_limit-few i.version in omega (arith, few, limit)

alone : (slots : List Slot) → map (λ (row : ThreadRow). row.slot) (map row_alone slots) ≡ slots
alone [] = refl
alone (s ∷ slots) = ap (λ l. s ∷ l) (alone slots)

-- a core of an image's slots has them
slots_made : (i : Image) (core : Core) (slots : List Slot) → core.rows ≡ map row_alone slots → slots ≡ i.slots → slots_of core ≡ i.slots
slots_made i core slots is same = ap (λ (rows : List ThreadRow). map (λ (row : ThreadRow). row.slot) rows) is ∙ alone slots ∙ same

pub of_version : (i : Image) (core : Core) (slots : List Slot) (version : ℕ) → IsImage i → core.rows ≡ map row_alone slots → slots ≡ i.slots → version ≡ i.version
    → AllByRecursion (IsOfVersion version) (slots_of core)
of_version i core slots version h rows same is =
    subst (λ (v : ℕ). AllByRecursion (IsOfVersion v) (slots_of core)) (sym is)
    (subst (λ (l : List Slot). AllByRecursion (IsOfVersion i.version) l) (sym (slots_made i core slots rows same))
    (each_map (IsFresh (slot_limit i.version) i.slots) (IsOfVersion i.version) (λ s k. record { number = k.number; group = k.group }) i.slots h.fresh))

pub none_pending : (i : Image) (core : Core) (slots : List Slot) → IsImage i → core.rows ≡ map row_alone slots → slots ≡ i.slots → AllByRecursion (λ (s : Slot). s.pending ≡ []) (slots_of core)
none_pending i core slots h rows same =
    subst (λ (l : List Slot). AllByRecursion (λ (s : Slot). s.pending ≡ []) l) (sym (slots_made i core slots rows same))
    (each_map (IsFresh (slot_limit i.version) i.slots) (λ (s : Slot). s.pending ≡ []) (λ s k. k.pending) i.slots h.fresh)

pub nothing_put_out : (outputs : List (List ℕ)) → outputs ≡ replicate 64 [] → AllByRecursion (λ (bytes : List ℕ). bytes ≡ []) outputs
nothing_put_out outputs is = subst (λ (l : List (List ℕ)). AllByRecursion (λ (bytes : List ℕ). bytes ≡ []) l) (sym is) (each_nothing 64)

pub core_made : (i : Image) (made versioned core : Core) (slots : List Slot) (version : ℕ) (split : Bool) → made.rows ≡ map row_alone slots → slots ≡ i.slots → made.outputs ≡ replicate 64 []
    → versioned ≡ record made { version = version } → core ≡ record versioned { split = split } → version ≡ i.version → split ≡ i.split → core ≡ (start i).core
unfolding start
core_made i made versioned core slots version split rows same outputs v s is_version is_split =
    s ∙ ap (λ (k : Core). record k { split = split }) v
    ∙ λ j. record { rows = (rows ∙ ap (λ (l : List Slot). map row_alone l) same) j; outputs = outputs j; version = is_version j; split = is_split j }

-- the parts of a machine that begins
pub begins : (i : Image) (c : code.Configs) → IsImage i → c.base.items ≡ i.slots → c.slots.items ≡ i.slots → c.depth ≤ 6 → length i.slots ≤ 2 ^ c.depth → c.core ≡ (start i).core
    → c.mem.memory ≡ i.memory → c.mem.uses ≡ 0 → c.store ≡ record { pairs = []; outputs = []; lists = []; cells = []; pages = [] }
    → c.names ≡ record { slots = 0; queues = 0; outputs = 0; height = 0; pages = 0 } → c.kept ≡ [] → HasStarted i c
unfolding start
begins i c image base room deep wide core memory uses store names kept = record {
  image = image;
  base = base;
  room = room;
  deep = deep;
  wide = wide;
  core = core;
  memory = memory;
  uses = uses;
  pairs = ap (λ (k : Store). k.pairs) store;
  outputs = ap (λ (k : Store). k.outputs) store;
  lists = ap (λ (k : Store). k.lists) store;
  cells = ap (λ (k : Store). k.cells) store;
  pages = ap (λ (k : Store). k.pages) store;
  names = names;
  kept = kept;
}

-- 2. All names.

module _ (i : Image) (old : code.Configs) (h : HasStarted i old) where
  pub trees_at_start : HasTrees old
  trees_at_start = record {
    depth = h.deep;
    wide = subst (λ (l : List Slot). length l ≤ 2 ^ old.depth) (sym h.base) h.wide;
    same = ap (map identity_of) (h.base ∙ sym (start_slots i) ∙ ap slots_of (sym h.core));
    slots = subst (IsTree old.store.pairs old.depth) (sym (ap (λ (n : Names). n.slots) h.names)) (none_tree old.store.pairs old.depth);
    queues = subst (IsTree old.store.pairs old.depth) (sym (ap (λ (n : Names). n.queues) h.names)) (none_tree old.store.pairs old.depth);
  }

  abbrev begun : Core
  begun = (start i).core

  uncounted_rows : (slots : List Slot) → AllByRecursion (IsFresh (slot_limit i.version) i.slots) slots → map uncounted_row (map row_alone slots) ≡ map row_alone slots
  uncounted_rows [] fresh = refl
  uncounted_rows (s ∷ slots) fresh =
      let none = fresh.0.turns in
      let rest = uncounted_rows slots fresh.1 in
      λ j. row_alone (record s { turns = sym none j }) ∷ rest j

  bare_start : uncounted begun ≡ begun
  unfolding start
  bare_start = ap (λ rows. record (start i).core { rows = rows }) (uncounted_rows i.slots h.image.fresh)

  whole : IsCore begun
  whole = let s = start_state_of i h.image in core_of i (start i) h.image s.state s.fits s.kept

  config : IsConfigurationOf i (configuration (start i))
  config = bare_config i (start i) (start_state_of i h.image) (subst IsCore (sym bare_start) whole)

  module _ (n : ℕ) (c1 : code.Configs) (slots : NotesSlots (λ k. k < n) old c1) where
    names_1 : c1.names ≡ record { slots = c1.names.slots; queues = 0; outputs = 0; height = 0; pages = 0 }
    names_1 = ap (λ (x : code.Configs). x.names) slots.others ∙ ap (λ (m : Names). record m { slots = c1.names.slots }) h.names

    pub no_pages : AreMemoryNames c1.store (record { pages = []; frames = 0 }) c1.names
    no_pages =
        subst (AreMemoryNames c1.store (record { pages = []; frames = 0 })) (sym names_1) (record {
          tree = record { inner = tt; few = omega arith; low = tt; inside = λ at high. none_at c1.store.pairs 0 at };
          pages = λ number. none_at c1.store.pairs 0 (page_place c1.store.pages number);
        })

    slots_1 : length i.slots ≤ n → AreLeaves (λ (x : Slot × Slot) name. IsSlotName c1.store x.0 x.1 name) (zip i.slots (slots_of begun)) c1.store.pairs old.depth c1.names.slots
    slots_1 all = record {
      inner = slots.leaves.inner;
      wide = subst (λ l. l ≤ 2 ^ old.depth) (sym long) h.wide;
      each = λ at. by at (cases_lt at (length i.slots)) (slots.leaves.each at);
    }
      where
        long : length (zip i.slots (slots_of begun)) ≡ length i.slots
        long = zip_long i.slots (slots_of begun) (ap length (sym (start_slots i)))

        base : c1.base.items ≡ i.slots
        base = ap (λ (x : code.Configs). x.base.items) slots.others ∙ h.base

        core : c1.core ≡ begun
        core = ap (λ (x : code.Configs). x.core) slots.others ∙ h.core

        pair : (at : ℕ) → at < length i.slots → slice_get (zip i.slots (slots_of begun)) at ≡ Some (slice_index_or c1.base.items at no_slot, slot_in c1.core at)
        pair at lt =
            let many = ap length (start_slots i) in
            let rows = slots_long begun in
            slice_get-get_or (zip i.slots (slots_of begun)) at (no_slot, no_slot) (omega (arith, long, lt))
            ∙ ap Some (zip_get i.slots (slots_of begun) at lt (omega (arith, many, lt))
            ∙ λ j. (slice_index_or (sym base j) at no_slot, (slots_at begun at (omega (arith, many, rows, lt)) ∙ ap (λ (k : Core). slot_in k at) (sym core)) j))

        by : (at : ℕ) → (at < length i.slots) ⊎ (length i.slots ≤ at)
            → IsSlotNamed c1 at (leaf_at c1.store.pairs old.depth c1.names.slots at)
            ⊎ ((at < n → ⊥) × (leaf_at c1.store.pairs old.depth c1.names.slots at ≡ leaf_at old.store.pairs old.depth old.names.slots at))
            → IsOrNone (λ (x : Slot × Slot) name. IsSlotName c1.store x.0 x.1 name) (slice_get (zip i.slots (slots_of begun)) at) (leaf_at c1.store.pairs old.depth c1.names.slots at)
        by at (inl lt) (inl named) =
            subst (λ (o : Option (Slot × Slot)). IsOrNone (λ (x : Slot × Slot) name. IsSlotName c1.store x.0 x.1 name) o (leaf_at c1.store.pairs old.depth c1.names.slots at)) (sym (pair at lt)) named.1
        by at (inl lt) (inr left) = absurd (left.0 (omega (arith, lt, all)))
        by at (inr high) (inl named) = let lt = named.0 in let same = ap length base in absurd (omega (arith, lt, same, high))
        by at (inr high) (inr left) =
            subst (λ (o : Option (Slot × Slot)). IsOrNone (λ (x : Slot × Slot) name. IsSlotName c1.store x.0 x.1 name) o (leaf_at c1.store.pairs old.depth c1.names.slots at))
            (sym (slice_get_past (zip i.slots (slots_of begun)) at (omega (arith, long, high))))
            (left.1 ∙ ap (λ m. leaf_at old.store.pairs old.depth m at) (ap (λ (m : Names). m.slots) h.names) ∙ none_at old.store.pairs old.depth at)

    queues_named : (k : Store) → AreLeaves (λ (row : ThreadRow) name. IsQueueName k row.queue name) begun.rows k.pairs old.depth 0
    unfolding start
    queues_named k =
        zero_leaves (λ (row : ThreadRow) name. IsQueueName k row.queue name) (map row_alone i.slots) no_row k.pairs old.depth
        (let long = length-map i.slots row_alone in let wide = h.wide in omega (arith, long, wide))
        (λ at lt.
        let long = length-map i.slots row_alone in
        let row : slice_index_or (map row_alone i.slots) at no_row ≡ row_alone (slice_index_or i.slots at no_slot) = get_or-map row_alone i.slots at no_slot no_row (omega (arith, long, lt)) in
        subst (λ (r : ThreadRow). IsQueueName k r.queue 0) (sym row) (record { within = omega arith; is = refl }))

    outputs_named : (k : Store) → AreLeaves (IsOutputName k) begun.outputs k.pairs 6 0
    unfolding start
    outputs_named k =
        zero_leaves (IsOutputName k) (replicate 64 []) [] k.pairs 6 (let long = length-replicate {A = List ℕ} 64 [] in omega (arith, long))
        (λ at lt. subst (λ (bytes : List ℕ). IsOutputName k bytes 0) (sym (nothing_out 64 at)) refl)

    module _ (pages : List (ℕ × List Cell)) (k2 : Store) (n2 : Names) (all : length i.slots ≤ n) (same : pages ≡ i.memory.pages) (named : AreMemoryNames k2 (record { pages = pages; frames = 0 }) n2)
        (still : IsKeptStill c1.store k2) (other : HasOtherPages c1.names n2) where
      pub started : (room : Vec ℕ Global) (pairs : List (ℕ × ℕ)) (rest : ℕ) (c4 : code.Configs) → c4 ≡ record c1 { store = record k2 { pairs = pairs }; names = n2; mapped = room; rest = rest }
          → room.items ≡ mapped_pages c1.mem.memory → Rattle.mm_pairs.specs.Named.HasGrown k2.pairs pairs → IsRest pairs n2 rest
          → Stands i (record { kept = []; machine = configuration (start i) }) c4
      unfolding configuration start
      started room pairs rest c4 is listed grown is_rest =
          subst (Stands i (record { kept = []; machine = configuration (start i) })) (sym is) (record {
            image = h.image;
            base = ap (λ (x : code.Configs). x.base.items) slots.others ∙ h.base;
            room = ap (λ (x : code.Configs). map identity_of x.slots.items) slots.others ∙ ap (map identity_of) h.room;
            depth = subst (λ (x : code.Configs). x.depth ≤ 6) (sym slots.others) h.deep;
            machine = record {
              core = ap (λ (x : code.Configs). x.core) slots.others ∙ h.core ∙ sym bare_start;
              memory = memory;
              config = config;
              uses = let none = ap (λ (x : code.Configs). x.mem.uses) slots.others ∙ h.uses in omega (arith, none);
              mapped = listed ∙ ap mapped_pages memory;
            };
            named = record { names = names; rest = is_rest };
            configs = tt;
            each = subst (AllZip (IsKeyOf i.slots c1.depth k3) []) (sym (ap (λ (x : code.Configs). x.kept) slots.others ∙ h.kept)) tt;
            few = omega arith;
          })
        where
          k3 : Store
          k3 = record k2 { pairs = pairs }

          memory : c1.mem.memory ≡ (start i).memory
          memory = ap (λ (x : code.Configs). x.mem.memory) slots.others ∙ h.memory

          later : IsKeptStill k2 (record k2 { pairs = pairs })
          later = record { pairs = grown; outputs = take-length k2.outputs; lists = take-length k2.lists; cells = take-length k2.cells; pages = take-length k2.pages }

          all_later : IsKeptStill c1.store (record k2 { pairs = pairs })
          all_later = twice c1.store k2 (record k2 { pairs = pairs }) still later

          depth : c1.depth ≡ old.depth
          depth = ap (λ (x : code.Configs). x.depth) slots.others

          names_2 : n2 ≡ record { slots = c1.names.slots; queues = 0; outputs = 0; height = n2.height; pages = n2.pages }
          names_2 = other ∙ ap (λ (m : Names). record m { height = n2.height; pages = n2.pages }) names_1

          names : AreNamesOf i.slots c1.depth (record k2 { pairs = pairs }) (configuration (start i)) n2
          names = subst (λ (core : Core). AreNamesOf i.slots c1.depth (record k2 { pairs = pairs }) (record { core = core; memory = i.memory; cycles = 0 }) n2) (sym bare_start) (record {
            slots = subst (λ d. AreLeaves (λ (x : Slot × Slot) name. IsSlotName (record k2 { pairs = pairs }) x.0 x.1 name) (zip i.slots (slots_of begun)) pairs d n2.slots) (sym depth)
                (subst (AreLeaves (λ (x : Slot × Slot) name. IsSlotName (record k2 { pairs = pairs }) x.0 x.1 name) (zip i.slots (slots_of begun)) pairs old.depth) (sym (ap (λ (m : Names). m.slots) names_2))
                (leaves_stay_named (λ (x : Slot × Slot) name. IsSlotName c1.store x.0 x.1 name) (λ (x : Slot × Slot) name. IsSlotName (record k2 { pairs = pairs }) x.0 x.1 name)
                (λ x name. slot_stays c1.store (record k2 { pairs = pairs }) all_later x.0 x.1 name) (zip i.slots (slots_of begun)) c1.store.pairs pairs all_later.pairs old.depth c1.names.slots (slots_1 all)));
            queues = subst (λ d. AreLeaves (λ (row : ThreadRow) name. IsQueueName (record k2 { pairs = pairs }) row.queue name) begun.rows pairs d n2.queues) (sym depth)
                (subst (AreLeaves (λ (row : ThreadRow) name. IsQueueName (record k2 { pairs = pairs }) row.queue name) begun.rows pairs old.depth) (sym (ap (λ (m : Names). m.queues) names_2))
                (queues_named (record k2 { pairs = pairs })));
            outputs = subst (AreLeaves (IsOutputName (record k2 { pairs = pairs })) begun.outputs pairs 6) (sym (ap (λ (m : Names). m.outputs) names_2)) (outputs_named (record k2 { pairs = pairs }));
            memory = memory_stays k2 (record k2 { pairs = pairs }) later i.memory n2
                (alike k2 (record { pages = pages; frames = 0 }) i.memory n2 (λ q. ap (λ (l : List (ℕ × List Cell)). find nat_cmp q l) (sym same)) named);
          })

-- 3. The first configuration is kept.

pub first_kept : (i : Image) (machine : State) (looked : Looked) (c : code.Configs)
    → ((now : Configs) × Stands i now c × Keeps 1 looked (record { kept = []; machine = machine }) now) → Stands i (record { kept = machine ∷ []; machine = machine }) c
first_kept i machine (Known at) c h = let got = h.2.0 in absurd (cc)
first_kept i machine New c h = subst (λ (v : Configs). Stands i v c) h.2.2 h.1
first_kept i machine Full c h = let high = h.2.1 in absurd (omega (arith, high))
