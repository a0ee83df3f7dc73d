-- A machine stands at the configuration after a turn of which all was noted.
use Rattle.std.proofs.Common.{◌≡◌, ◌≢◌, ◌⊎◌, inl, inr, ℕ, ◌<◌, ◌≤◌, ◌^◌, Option, Some, None, List, [], ◌∷◌, ◌++◌, ◌%◌, map, length, slice_index_or, refl, sym, ap, ◌∙◌, subst, arith}
use Rattle.std.proofs.Math.Seq.{take-length}
use Rattle.std.proofs.lemmas.{Bool.cases_eq, List.{length-map, get_or-map}, Option.slice_get-get_or}
use Rattle.std.specs.{Prelude.{zip, IfSome, IsBitSet, IsSomeAnd, ◌↔◌}, List.AllByRecursion}
use Rattle.mm_model.specs.declared.{event.Event.Event, step.Step.Step, slot.SlotState.TheVariants.Running}
use Rattle.mm_model.specs.{Slot.Slot, Image.Image, Memory.Memory, State.{ThreadRow, Core, State, slot_at, output_of}, Run.{turn_of, after}, Fits.{slots_of, identity_of, IsCore, IsOfVersion}}
use Rattle.mm_model.proofs.{CoreRows.{each_get, slot_has, slot_limit-few}, Fitted.paged_of}
use Rattle.mm_pairs.specs.Trees.{IsTree}
use Rattle.mm_thread.specs.SlotIndices.{no_slot, no_row, slot_in, queue_in, with_slot}
use Rattle.mm_thread.proofs.{Index.slot_found, Revised.slots_many, RowIndex.apart_in}
use Rattle.mm_config.specs.declared.configs.Configs as code
use Rattle.mm_config.specs.declared.{note.Before.Before, store.Store.Store, names.Names.Names}
use Rattle.mm_config.specs.{Configurations.{uncounted_slot, uncounted_row, uncounted, configuration}, Forms.queue_form}
use Rattle.mm_config.specs.Naming.{AreNamesOf, AreMemoryNames, AreLeaves, IsOrNone, IsRest, IsSlotName, IsQueueName, IsOutputName, leaf_at}
use Rattle.mm_laws.specs.Frames.{OutputLeft, MemoryLeft}
use Rattle.mm_config.specs.{Noting.{IsKeptStill, mapped_pages}, Keeping.{Stands, IsConfigurationOf}, Turning.{HasTurned, HasTrees, WasOutput, WasMemory, NotesLeaves, NotesSlots, NotesQueues, NotesOutputs, NotesMemory, IsServedBy, IsFaultHandler}}
use Rattle.mm_config.proofs.{NextState.{core_before, core_after, frame, same_identities, uncounted_core, bare_core_whole, next_config, identities_bare}, NotedTurn.{turn_slot, zip_long, slots_long, slots_settled, queues_settled}}
use Rattle.mm_config.proofs.{Staying.{leaves_stay_named, slot_stays, queue_stays, output_stays, memory_stays, rest_stays}, PageTrees.none_at, Noted.twice, NotedRest.{last_byte, output_named, outputs_settled, memory_alike}, States.after_state_of}
use Rattle.mm_config.proofs.{Standing.stands_at, TurnNames.{base_identity, identity_in, missing_before, slot_stays_in, queue_stays_in}, Turned.nobody_turns}

-- what no note changes
record KeepsParts (old new : code.Configs) : Type 0 where
  base : new.base ≡ old.base
  slots : new.slots ≡ old.slots
  depth : new.depth ≡ old.depth
  kept : new.kept ≡ old.kept

parts_twice : (a b c : code.Configs) → KeepsParts a b → KeepsParts b c → KeepsParts a c
parts_twice a b c h g = record { base = g.base ∙ h.base; slots = g.slots ∙ h.slots; depth = g.depth ∙ h.depth; kept = g.kept ∙ h.kept }

no_events : (q : List Event) → [] ≡ queue_form q → q ≡ []
no_events [] e = refl
no_events (x ∷ q) e = cc

still_same : (k : Store) → IsKeptStill k k
still_same k = record { pairs = take-length k.pairs; outputs = take-length k.outputs; lists = take-length k.lists; cells = take-length k.cells; pages = take-length k.pages }

-- the name of the rest is that of other names that differ by the slots alone
rest_alike : (pairs : List (ℕ × ℕ)) (n m : Names) (rest : ℕ) → record n { slots = m.slots } ≡ m → IsRest pairs m rest → IsRest pairs n rest
rest_alike pairs n m rest e h =
    let back : IsRest pairs (record n { slots = m.slots }) rest = subst (λ (x : Names). IsRest pairs x rest) (sym e) h in
    record { two = back.two; others = back.others; events = back.events; depth = back.depth; all = back.all }

uncounted_in : (core : Core) (k : ℕ) → k < length core.rows → slot_in (uncounted core) k ≡ uncounted_slot (slot_in core k)
uncounted_in core k lt = ap (λ (row : ThreadRow). row.slot) (get_or-map uncounted_row core.rows k no_row no_row lt)

queue_bare : (core : Core) (k : ℕ) → k < length core.rows → queue_in (uncounted core) k ≡ queue_in core k
queue_bare core k lt = ap (λ (row : ThreadRow). row.queue) (get_or-map uncounted_row core.rows k no_row no_row lt)

module _ (b : Before) (step : Step) (c : code.Configs) (t : HasTurned b step c) where
  abbrev i : Image
  i = t.image

  abbrev s : State
  s = t.at.machine

  abbrev later : Core
  later = (turn_of s t.item).core

  abbrev bare : Core
  bare = uncounted later

  config : IsConfigurationOf i s
  config = t.stands.machine.config

  before : IsCore s.core
  before = core_before i s t.item t.stands.image config

  rows_same : length later.rows ≡ length s.core.rows
  rows_same =
      sym (length-map later.rows (λ (row : ThreadRow). row.slot)) ∙ slots_many (slots_of later) s.core (same_identities i s t.item t.stands.image config)

  base_same : map identity_of i.slots ≡ map identity_of (slots_of s.core)
  base_same = sym config.state.fits.same_slots

  base_many : length i.slots ≡ length s.core.rows
  base_many = slots_many i.slots s.core base_same

  after_core : IsCore later
  after_core = core_after i s t.item t.stands.image config

  later_bytes : (g : ℕ) → g < 64 → AllByRecursion (λ byte. byte < 256) (output_of later g)
  unfolding output_of after
  later_bytes g lt =
      each_get (λ output. AllByRecursion (λ byte. byte < 256) output) later.outputs g [] (after_state_of i s t.item t.stands.image config.state).bytes
      (let groups = after_core.formed.outputs in omega (arith, groups, lt))

  bare_rows : length bare.rows ≡ length s.core.rows
  bare_rows = length-map later.rows uncounted_row ∙ rows_same

  bare_before : uncounted s.core ≡ s.core
  unfolding configuration
  bare_before = ap (λ (x : State). x.core) config.bare

  bare_same : map identity_of (slots_of bare) ≡ map identity_of (slots_of s.core)
  bare_same = identities_bare later.rows ∙ same_identities i s t.item t.stands.image config

  -- nobody has made the turn
  pub nobody_stands : slot_at c.core step.slot ≡ None → Stands i (record t.at { machine = configuration (after s t.item) }) c
  nobody_stands none =
      let later_none : slot_at later (turn_of s t.item).step.slot ≡ None =
      ap (λ (k : Core). slot_at k (turn_of s t.item).step.slot) (sym t.core) ∙ ap (λ (x : Step). slot_at c.core x.slot) (sym t.shown) ∙ none in
      let before_none = missing_before s.core later before after_core (same_identities i s t.item t.stands.image config) (turn_of s t.item).step.slot later_none in
      let same = (frame i s t.item t.stands.image config).nobody before_none in
      subst (λ (x : State). Stands i (record t.at { machine = x }) c) (sym (nobody_turns s config.bare t.item (frame i s t.item t.stands.image config) before_none))
      (stands_at i t.at s t.was c t.stands
      (ap (λ (x : code.Configs). x.base) t.others)
      (ap (λ (x : code.Configs). map identity_of x.slots.items) t.others)
      (ap (λ (x : code.Configs). x.depth) t.others)
      (ap (λ (x : code.Configs). x.kept) t.others)
      (subst (IsKeptStill t.was.store) (sym (ap (λ (x : code.Configs). x.store) t.others)) (still_same t.was.store))
      (record {
        core = t.core ∙ same.0;
        memory = t.memory ∙ same.1;
        config = config;
        uses = t.uses;
        mapped = ap (λ (x : code.Configs). x.mapped.items) t.others ∙ t.stands.machine.mapped;
      })
      (record {
        names = subst (λ (x : code.Configs). AreNamesOf i.slots x.depth x.store s x.names) (sym t.others) t.stands.named.names;
        rest = subst (λ (x : code.Configs). IsRest x.store.pairs x.names x.rest) (sym t.others) t.stands.named.rest;
      }))

  module _ (at : ℕ) (within : at < length c.core.rows) (number : (slot_in c.core at).number ≡ step.slot) where
    inside : at < length later.rows
    inside = subst (λ (k : Core). at < length k.rows) t.core within

    at_within : at < length i.slots
    at_within = let lt = inside in omega (arith, lt, rows_same, base_many)

    own : (slot_in later at).number ≡ (turn_of s t.item).step.slot
    own = ap (λ (k : Core). (slot_in k at).number) (sym t.core) ∙ number ∙ ap (λ (x : Step). x.slot) t.shown

    whole : IsCore bare
    whole = bare_core_whole i s t.item t.stands.image config at inside own

    module _ (c1 : code.Configs) (one : c1 ≡ record c { core = with_slot c.core at (record (slot_in c.core at) { turns = 0 }) }) where
      pub core_1 : c1.core ≡ bare
      core_1 =
          ap (λ (x : code.Configs). x.core) one
          ∙ ap (λ (k : Core). with_slot k at (record (slot_in k at) { turns = 0 })) t.core
          ∙ uncounted_core i s t.item t.stands.image config at inside own

      pub rest_1 : c1 ≡ record t.was { core = c1.core; mem = c1.mem }
      rest_1 =
          one ∙ ap (λ (x : code.Configs). record x { core = with_slot c.core at (record (slot_in c.core at) { turns = 0 }) }) t.others
          ∙ (λ j. record t.was { core = ap (λ (x : code.Configs). x.core) (sym one) j; mem = ap (λ (x : code.Configs). x.mem) (sym one) j })

      pub names_1 : AreNamesOf i.slots c1.depth c1.store s c1.names
      names_1 = subst (λ (x : code.Configs). AreNamesOf i.slots x.depth x.store s x.names) (sym rest_1) t.stands.named.names

      pub base_1 : c1.base.items ≡ i.slots
      base_1 = ap (λ (x : code.Configs). x.base.items) rest_1 ∙ t.stands.base

      pub in_base_1 : at < length c1.base.items
      in_base_1 = subst (λ (l : List Slot). at < length l) (sym base_1) at_within

      -- there is a leaf for each slot
      long_base : length c1.base.items ≤ 2 ^ c1.depth
      long_base =
          let long = ap length base_1 in
          let pairs = zip_long i.slots (slots_of s.core) (base_many ∙ sym (slots_long s.core)) in
          let wide = names_1.slots.wide in
          omega (arith, long, pairs, wide)

      pub trees_1 : HasTrees c1
      trees_1 = record {
        depth = subst (λ d. d ≤ 6) (sym (ap (λ (x : code.Configs). x.depth) rest_1)) t.stands.depth;
        wide = long_base;
        same = ap (map identity_of) base_1 ∙ base_same ∙ sym bare_same ∙ ap (λ (k : Core). map identity_of (slots_of k)) (sym core_1);
        slots = names_1.slots.inner;
        queues = names_1.queues.inner;
      }

      -- the slots
      module _ (c2 : code.Configs) (slots : NotesSlots (λ k. (k ≡ at) ⊎ IsServedBy c1.base.items step.slot b.running k) c1 c2) where
        pub core_2 : c2.core ≡ bare
        core_2 = ap (λ (x : code.Configs). x.core) slots.others ∙ core_1

        pub base_2 : c2.base.items ≡ i.slots
        base_2 = ap (λ (x : code.Configs). x.base.items) slots.others ∙ base_1

        pub in_base_2 : at < length c2.base.items
        in_base_2 = subst (λ (l : List Slot). at < length l) (sym base_2) at_within

        bare_slot : (k : ℕ) → k < length s.core.rows → ((k ≡ at) ⊎ IsServedBy c1.base.items step.slot b.running k → ⊥) → slot_in bare k ≡ slot_in s.core k
        bare_slot k lt none =
            let same = same_identities i s t.item t.stands.image config in
            let first : at < length s.core.rows = omega (arith, inside, rows_same) in
            let there : (slot_in s.core at).number ≡ (turn_of s t.item).step.slot = ap (λ x. x.0) (sym (identity_in s.core later before after_core same at first)) ∙ own in
            let stays : slot_in later k ≡ slot_in s.core k =
            slot_stays_in s.core later before after_core same c1.base.items at (turn_of s t.item).step.slot b.running (ap (map identity_of) base_1 ∙ base_same) first there
            (subst (λ (core : Core). (n : ℕ) → IsBitSet b.running n ↔ IsSomeAnd (slot_at core n) (λ x. x.state ≡ Running)) t.stands.machine.core t.before.running)
            (frame i s t.item t.stands.image config).slots k lt (λ e. none (inl e))
            (λ h. none (inr (subst (λ n. IsServedBy c1.base.items n b.running k) (ap (λ (x : Step). x.slot) (sym t.shown)) h))) in
            uncounted_in later k (omega (arith, lt, rows_same)) ∙ ap uncounted_slot stays
            ∙ sym (uncounted_in s.core k lt) ∙ ap (λ (core : Core). slot_in core k) bare_before

        pub slots_2 : AreLeaves (λ (x : Slot × Slot) name. IsSlotName c2.store x.0 x.1 name) (zip i.slots (slots_of bare)) c2.store.pairs c1.depth c2.names.slots
        slots_2 =
            slots_settled i.slots s.core bare c1.store c2.store slots.still c1.depth c1.names.slots c2.names.slots (λ k. (k ≡ at) ⊎ IsServedBy c1.base.items step.slot b.running k)
            base_many bare_rows names_1.slots
            (subst (λ (l : List Slot). NotesLeaves (λ k name. (k < length l) × IsSlotName c2.store (slice_index_or l k no_slot) (slot_in bare k) name)
            (λ k. (k ≡ at) ⊎ IsServedBy c1.base.items step.slot b.running k) c1.store.pairs c1.depth c1.names.slots c2.store.pairs c2.names.slots) base_2
            (subst (λ (core : Core). NotesLeaves (λ k name. (k < length c2.base.items) × IsSlotName c2.store (slice_index_or c2.base.items k no_slot) (slot_in core k) name)
            (λ k. (k ≡ at) ⊎ IsServedBy c1.base.items step.slot b.running k) c1.store.pairs c1.depth c1.names.slots c2.store.pairs c2.names.slots) core_2 slots.leaves))
            bare_slot

        pub queues_2 : AreLeaves (λ (row : ThreadRow) name. IsQueueName c2.store row.queue name) s.core.rows c2.store.pairs c2.depth c2.names.queues
        queues_2 =
            subst (λ (x : code.Configs). AreLeaves (λ (row : ThreadRow) name. IsQueueName c2.store row.queue name) s.core.rows c2.store.pairs x.depth x.names.queues) (sym slots.others)
            (leaves_stay_named (λ (row : ThreadRow) name. IsQueueName c1.store row.queue name) (λ (row : ThreadRow) name. IsQueueName c2.store row.queue name)
            (λ row name. queue_stays c1.store c2.store slots.still row.queue name) s.core.rows c1.store.pairs c2.store.pairs slots.still.pairs c1.depth c1.names.queues names_1.queues)

        pub trees_2 : HasTrees c2
        trees_2 = record {
          depth = subst (λ d. d ≤ 6) (sym (ap (λ (x : code.Configs). x.depth) slots.others)) trees_1.depth;
          wide = subst (λ d. length c2.base.items ≤ 2 ^ d) (sym (ap (λ (x : code.Configs). x.depth) slots.others))
              (subst (λ (l : List Slot). length l ≤ 2 ^ c1.depth) (base_1 ∙ sym base_2) long_base);
          same = ap (map identity_of) base_2 ∙ base_same ∙ sym bare_same ∙ ap (λ (k : Core). map identity_of (slots_of k)) (sym core_2);
          slots = subst (λ d. IsTree c2.store.pairs d c2.names.slots) (sym (ap (λ (x : code.Configs). x.depth) slots.others)) slots.leaves.inner;
          queues = queues_2.inner;
        }

        -- the queues
        module _ (c3 : code.Configs) (queues : NotesQueues (λ k. IsFaultHandler c2.base.items step.tick at k ⊎ ((k ≡ at) × (c3.names.queues ≢ 0))) c2 c3) where
          pub core_3 : c3.core ≡ bare
          core_3 = ap (λ (x : code.Configs). x.core) queues.others ∙ core_2

          abbrev Due : ℕ → Type 0
          Due k = IsFaultHandler c2.base.items step.tick at k ⊎ ((k ≡ at) × (c3.names.queues ≢ 0))

          -- the own queue was empty if its leaf was left and there are no queues
          own_empty : (k : ℕ) → k < length s.core.rows → c3.names.queues ≡ 0 → leaf_at c3.store.pairs c2.depth c3.names.queues k ≡ leaf_at c2.store.pairs c2.depth c2.names.queues k → queue_in s.core k ≡ []
          own_empty k lt none same =
              let zero : leaf_at c2.store.pairs c2.depth c2.names.queues k ≡ 0 =
              sym same ∙ ap (λ n. leaf_at c3.store.pairs c2.depth n k) none ∙ none_at c3.store.pairs c2.depth k in
              let named = subst (λ o. IsOrNone (λ (row : ThreadRow) name. IsQueueName c2.store row.queue name) o (leaf_at c2.store.pairs c2.depth c2.names.queues k)) (slice_get-get_or s.core.rows k no_row lt)
              (queues_2.each k) in
              no_events (queue_in s.core k) (subst (λ n. IsQueueName c2.store (queue_in s.core k) n) zero named).is

          bare_queue : (k : ℕ) → k < length s.core.rows → (Due k → ⊥) → leaf_at c3.store.pairs c2.depth c3.names.queues k ≡ leaf_at c2.store.pairs c2.depth c2.names.queues k → queue_in bare k ≡ queue_in s.core k
          bare_queue k lt none same =
              let alike = same_identities i s t.item t.stands.image config in
              let first : at < length s.core.rows = omega (arith, inside, rows_same) in
              let there : (slot_in s.core at).number ≡ (turn_of s t.item).step.slot = ap (λ x. x.0) (sym (identity_in s.core later before after_core alike at first)) ∙ own in
              queue_bare later k (omega (arith, lt, rows_same))
              ∙ queue_stays_in s.core later before after_core alike c2.base.items at (turn_of s t.item).step.slot (turn_of s t.item).step.tick (ap (map identity_of) base_2 ∙ base_same) first there
              (frame i s t.item t.stands.image config).queues k lt (λ h. none (inl (subst (λ (x : Step). IsFaultHandler c2.base.items x.tick at k) (sym t.shown) h)))
              (elim (cases_eq k at) [
                | inr ne ↦ inl ne
                | inl e ↦ elim (cases_eq c3.names.queues 0) [
                  | inl zero ↦ inr (own_empty k lt zero same)
                  | inr some ↦ absurd (none (inr (e, some)))
                ]
              ])

          pub queues_3 : AreLeaves (λ (row : ThreadRow) name. IsQueueName c3.store row.queue name) bare.rows c3.store.pairs c2.depth c3.names.queues
          queues_3 =
              queues_settled i.slots s.core bare c2.store c3.store queues.still c2.depth c2.names.queues c3.names.queues Due base_many bare_rows queues_2
              (subst (λ (l : List Slot). NotesLeaves (λ k name. (k < length l) × IsQueueName c3.store (queue_in bare k) name) Due c2.store.pairs c2.depth c2.names.queues c3.store.pairs c3.names.queues)
              (ap (λ (x : code.Configs). x.base.items) queues.others ∙ base_2)
              (subst (λ (core : Core). NotesLeaves (λ k name. (k < length c3.base.items) × IsQueueName c3.store (queue_in core k) name) Due c2.store.pairs c2.depth c2.names.queues c3.store.pairs c3.names.queues)
              core_3 queues.leaves))
              bare_queue

          outputs_3 : AreLeaves (IsOutputName c3.store) s.core.outputs c3.store.pairs 6 c3.names.outputs
          outputs_3 =
              let still = twice c1.store c2.store c3.store slots.still queues.still in
              subst (AreLeaves (IsOutputName c3.store) s.core.outputs c3.store.pairs 6)
              (sym (ap (λ (x : code.Configs). x.names.outputs) queues.others ∙ ap (λ (x : code.Configs). x.names.outputs) slots.others))
              (leaves_stay_named (IsOutputName c1.store) (IsOutputName c3.store) (output_stays c1.store c3.store still) s.core.outputs c1.store.pairs c3.store.pairs still.pairs 6 c1.names.outputs names_1.outputs)

          pub in_base_3 : at < length c3.base.items
          in_base_3 = subst (λ (x : code.Configs). at < length x.base.items) (sym queues.others) in_base_2

          abbrev group : ℕ
          group = (slice_index_or c3.base.items at no_slot).group

          bare_output : (g : ℕ) → g < 64 → (g ≡ group → ⊥) → output_of bare g ≡ output_of s.core g
          unfolding output_of
          bare_output g lt ne = cases ((frame i s t.item t.stands.image config).outputs g)
            where
              base_3 : c3.base.items ≡ i.slots
              base_3 = ap (λ (x : code.Configs). x.base.items) queues.others ∙ base_2

              first : at < length s.core.rows
              first = omega (arith, inside, rows_same)

              there : (slot_in s.core at).number ≡ (turn_of s t.item).step.slot
              there = ap (λ x. x.0) (sym (identity_in s.core later before after_core (same_identities i s t.item t.stands.image config) at first)) ∙ own

              cases : OutputLeft s.core later (turn_of s t.item).step.slot g → output_of later g ≡ output_of s.core g
              cases (OutputLeft.Same e) = e
              cases (OutputLeft.Put h) =
                  let here : slot_at s.core (turn_of s t.item).step.slot ≡ Some (slot_in s.core at) = ap (slot_at s.core) (sym there) ∙ slot_found s.core (apart_in s.core before) at first in
                  let two : ◌≡◌ {A = Option Slot} (Some h.slot) (Some (slot_in s.core at)) = sym h.there ∙ here in
                  let one : h.slot ≡ slot_in s.core at = cc in
                  let base = base_identity c3.base.items s.core (ap (map identity_of) base_3 ∙ base_same) at first in
                  absurd (ne (sym h.group ∙ ap (λ (x : Slot). x.group) one ∙ sym (ap (λ x. x.1) base)))

          group_is : group ≡ (slot_in s.core at).group
          group_is =
              let first : at < length s.core.rows = omega (arith, inside, rows_same) in
              let base_3 : c3.base.items ≡ i.slots = ap (λ (x : code.Configs). x.base.items) queues.others ∙ base_2 in
              ap (λ x. x.1) (base_identity c3.base.items s.core (ap (map identity_of) base_3 ∙ base_same) at first)

          pub was_output : WasOutput group b.put_out c3
          unfolding output_of
          was_output =
              let first : at < length s.core.rows = omega (arith, inside, rows_same) in
              let there : (slot_in s.core at).number ≡ (turn_of s t.item).step.slot =
              ap (λ x. x.0) (sym (identity_in s.core later before after_core (same_identities i s t.item t.stands.image config) at first)) ∙ own in
              let here : slot_at s.core (turn_of s t.item).step.slot ≡ Some (slot_in s.core at) = ap (slot_at s.core) (sym there) ∙ slot_found s.core (apart_in s.core before) at first in
              let version = slot_has (IsOfVersion 2) s.core (turn_of s t.item).step.slot (slot_in s.core at) before.numbers here in
              let below = version.group in
              let low = version.number in
              let few = slot_limit-few 2 in
              let small : group < 64 = omega (arith, group_is, below, few) in
              let item : (turn_of s t.item).step.slot ≡ t.item % 128 = turn_slot s.core s.memory t.item t.byte (slot_in s.core at) (omega (arith, low, few)) here in
              let length_was : b.put_out ≡ length (output_of s.core (slot_in s.core at).group) =
              subst (λ (o : Option Slot). IfSome o (λ x. b.put_out ≡ length (output_of s.core x.group))) (ap (slot_at s.core) (sym item) ∙ here)
              (subst (λ (core : Core). IfSome (slot_at core (t.item % 128)) (λ x. b.put_out ≡ length (output_of core x.group))) t.stands.machine.core t.before.put_out) in
              record {
                bytes = output_of s.core group;
                named = output_named c3.store s.core c3.names.outputs before.formed.outputs outputs_3 group small;
                inner = outputs_3.inner;
                long = length_was ∙ ap (λ g. length (output_of s.core g)) (sym group_is);
                small = small;
                now = subst (λ (core : Core). (output_of core group ≡ output_of s.core group) ⊎ ((byte : ℕ) × (byte < 256) × (output_of core group ≡ output_of s.core group ++ byte ∷ []))) (sym core_3)
                    (put_now small ((frame i s t.item t.stands.image config).outputs group));
              }
            where
              put_now : group < 64 → OutputLeft s.core later (turn_of s t.item).step.slot group
                  → (output_of later group ≡ output_of s.core group) ⊎ ((byte : ℕ) × (byte < 256) × (output_of later group ≡ output_of s.core group ++ byte ∷ []))
              put_now small (OutputLeft.Same e) = inl e
              put_now small (OutputLeft.Put h) =
                  inr (h.byte, last_byte (output_of later group) (output_of s.core group) h.byte (later_bytes group small) h.is, h.is)

          -- the outputs
          module _ (c4 : code.Configs) (outputs : NotesOutputs (λ g. g ≡ group) c3 c4) where
            core_4 : c4.core ≡ bare
            core_4 = ap (λ (x : code.Configs). x.core) outputs.others ∙ core_3

            outputs_4 : AreLeaves (IsOutputName c4.store) bare.outputs c4.store.pairs 6 c4.names.outputs
            outputs_4 =
                outputs_settled s.core bare c3.store c4.store outputs.still c3.names.outputs c4.names.outputs group before.formed.outputs whole.formed.outputs outputs_3
                (subst (λ (core : Core). NotesLeaves (λ g name. IsOutputName c4.store (output_of core g) name) (λ g. g ≡ group) c3.store.pairs 6 c3.names.outputs c4.store.pairs c4.names.outputs)
                core_4 outputs.leaves)
                bare_output

            pub was_memory : WasMemory step.touched b.pages c4
            was_memory =
                let still = twice c1.store c2.store c4.store slots.still (twice c2.store c3.store c4.store queues.still outputs.still) in
                let mem : c4.mem ≡ c.mem =
                ap (λ (x : code.Configs). x.mem) outputs.others ∙ ap (λ (x : code.Configs). x.mem) queues.others ∙ ap (λ (x : code.Configs). x.mem) slots.others ∙ ap (λ (x : code.Configs). x.mem) one in
                let mapped : c4.mapped ≡ t.was.mapped =
                ap (λ (x : code.Configs). x.mapped) outputs.others ∙ ap (λ (x : code.Configs). x.mapped) queues.others ∙ ap (λ (x : code.Configs). x.mapped) slots.others
                ∙ ap (λ (x : code.Configs). x.mapped) rest_1 in
                record {
                  memory = s.memory;
                  left = subst (λ (m : Memory). MemoryLeft s.memory m step.touched) (sym (ap (λ x. x.memory) mem ∙ t.memory))
                      (subst (λ (x : Step). MemoryLeft s.memory (turn_of s t.item).memory x.touched) (sym t.shown) (frame i s t.item t.stands.image config).memory);
                  whole = paged_of i s config.state.state config.state.fits;
                  names = memory_alike c4.store s.memory c1.names c4.names
                      (ap (λ (x : code.Configs). x.names.height) outputs.others ∙ ap (λ (x : code.Configs). x.names.height) queues.others ∙ ap (λ (x : code.Configs). x.names.height) slots.others)
                      (ap (λ (x : code.Configs). x.names.pages) outputs.others ∙ ap (λ (x : code.Configs). x.names.pages) queues.others ∙ ap (λ (x : code.Configs). x.names.pages) slots.others)
                      (memory_stays c1.store c4.store still s.memory c1.names names_1.memory);
                  mapped = ap (λ x. x.items) mapped ∙ t.stands.machine.mapped;
                  count = t.before.pages ∙ ap (λ (m : Memory). length m.pages) t.stands.machine.memory;
                }

            -- the name of the rest is as it was if those of its parts are
            pub rest_left : (c5 : code.Configs) → NotesMemory c4 c5 → record c5.names { slots = c2.names.slots } ≡ c2.names → IsRest c5.store.pairs c5.names c5.rest
            rest_left c5 memory same =
                let still = twice c1.store c2.store c5.store slots.still (twice c2.store c3.store c5.store queues.still (twice c3.store c4.store c5.store outputs.still memory.still)) in
                let first : IsRest c1.store.pairs c1.names c1.rest = subst (λ (x : code.Configs). IsRest x.store.pairs x.names x.rest) (sym rest_1) t.stands.named.rest in
                let later_first = rest_stays c1.store c5.store still c1.names c1.rest first in
                let named_2 : c2.names ≡ record c1.names { slots = c2.names.slots } = ap (λ (x : code.Configs). x.names) slots.others in
                let second : IsRest c5.store.pairs c2.names c1.rest = rest_alike c5.store.pairs c2.names (record c1.names { slots = c2.names.slots }) c1.rest named_2
                (record { two = later_first.two; others = later_first.others; events = later_first.events; depth = later_first.depth; all = later_first.all }) in
                let rest_5 : c5.rest ≡ c1.rest =
                ap (λ (x : code.Configs). x.rest) memory.others ∙ ap (λ (x : code.Configs). x.rest) outputs.others ∙ ap (λ (x : code.Configs). x.rest) queues.others ∙ ap (λ (x : code.Configs). x.rest) slots.others in
                subst (IsRest c5.store.pairs c5.names) (sym rest_5) (rest_alike c5.store.pairs c5.names c2.names c1.rest same second)

            -- all
            module _ (c5 c6 : code.Configs) (memory : NotesMemory c4 c5) (last : c6 ≡ record c5 { store = c6.store; rest = c6.rest }) (more : IsKeptStill c5.store c6.store)
                (rest : IsRest c6.store.pairs c6.names c6.rest) where
              later_than_4 : IsKeptStill c4.store c6.store
              later_than_4 = twice c4.store c5.store c6.store memory.still more

              later_than_3 : IsKeptStill c3.store c6.store
              later_than_3 = twice c3.store c4.store c6.store outputs.still later_than_4

              later_than_2 : IsKeptStill c2.store c6.store
              later_than_2 = twice c2.store c3.store c6.store queues.still later_than_3

              later_than_1 : IsKeptStill c1.store c6.store
              later_than_1 = twice c1.store c2.store c6.store slots.still later_than_2

              parts : KeepsParts t.was c6
              parts =
                  parts_twice t.was c1 c6 (record {
                    base = ap (λ (x : code.Configs). x.base) rest_1;
                    slots = ap (λ (x : code.Configs). x.slots) rest_1;
                    depth = ap (λ (x : code.Configs). x.depth) rest_1;
                    kept = ap (λ (x : code.Configs). x.kept) rest_1;
                  })
                  (parts_twice c1 c2 c6 (record {
                    base = ap (λ (x : code.Configs). x.base) slots.others;
                    slots = ap (λ (x : code.Configs). x.slots) slots.others;
                    depth = ap (λ (x : code.Configs). x.depth) slots.others;
                    kept = ap (λ (x : code.Configs). x.kept) slots.others;
                  })
                  (parts_twice c2 c3 c6 (record {
                    base = ap (λ (x : code.Configs). x.base) queues.others;
                    slots = ap (λ (x : code.Configs). x.slots) queues.others;
                    depth = ap (λ (x : code.Configs). x.depth) queues.others;
                    kept = ap (λ (x : code.Configs). x.kept) queues.others;
                  })
                  (parts_twice c3 c4 c6 (record {
                    base = ap (λ (x : code.Configs). x.base) outputs.others;
                    slots = ap (λ (x : code.Configs). x.slots) outputs.others;
                    depth = ap (λ (x : code.Configs). x.depth) outputs.others;
                    kept = ap (λ (x : code.Configs). x.kept) outputs.others;
                  })
                  (record {
                    base = ap (λ (x : code.Configs). x.base) last ∙ ap (λ (x : code.Configs). x.base) memory.others;
                    slots = ap (λ (x : code.Configs). x.slots) last ∙ ap (λ (x : code.Configs). x.slots) memory.others;
                    depth = ap (λ (x : code.Configs). x.depth) last ∙ ap (λ (x : code.Configs). x.depth) memory.others;
                    kept = ap (λ (x : code.Configs). x.kept) last ∙ ap (λ (x : code.Configs). x.kept) memory.others;
                  }))))

              mem_same : c6.mem ≡ c.mem
              mem_same =
                  ap (λ (x : code.Configs). x.mem) last ∙ ap (λ (x : code.Configs). x.mem) memory.others ∙ ap (λ (x : code.Configs). x.mem) outputs.others
                  ∙ ap (λ (x : code.Configs). x.mem) queues.others ∙ ap (λ (x : code.Configs). x.mem) slots.others ∙ ap (λ (x : code.Configs). x.mem) one

              names_5 : c6.names ≡ c5.names
              names_5 = ap (λ (x : code.Configs). x.names) last

              -- its names, but for the tree of pages, are those that were noted first
              names_4 : c6.names ≡ record c4.names { height = c5.names.height; pages = c5.names.pages }
              names_4 = names_5 ∙ memory.pages

              slots_name : c6.names.slots ≡ c2.names.slots
              slots_name =
                  ap (λ (n : Names). n.slots) names_4 ∙ ap (λ (x : code.Configs). x.names.slots) outputs.others ∙ ap (λ (x : code.Configs). x.names.slots) queues.others

              queues_name : c6.names.queues ≡ c3.names.queues
              queues_name = ap (λ (n : Names). n.queues) names_4 ∙ ap (λ (x : code.Configs). x.names.queues) outputs.others

              outputs_name : c6.names.outputs ≡ c4.names.outputs
              outputs_name = ap (λ (n : Names). n.outputs) names_4

              depth_1 : c6.depth ≡ c1.depth
              depth_1 = parts.depth ∙ sym (ap (λ (x : code.Configs). x.depth) rest_1)

              depth_2 : c6.depth ≡ c2.depth
              depth_2 = depth_1 ∙ sym (ap (λ (x : code.Configs). x.depth) slots.others)

              abbrev pub next : State
              next = configuration (after s t.item)

              named : AreNamesOf i.slots c6.depth c6.store next c6.names
              unfolding configuration after
              named = record {
                slots = subst (λ d. AreLeaves (λ (x : Slot × Slot) name. IsSlotName c6.store x.0 x.1 name) (zip i.slots (slots_of bare)) c6.store.pairs d c6.names.slots) (sym depth_1)
                    (subst (AreLeaves (λ (x : Slot × Slot) name. IsSlotName c6.store x.0 x.1 name) (zip i.slots (slots_of bare)) c6.store.pairs c1.depth) (sym slots_name)
                    (leaves_stay_named (λ (x : Slot × Slot) name. IsSlotName c2.store x.0 x.1 name) (λ (x : Slot × Slot) name. IsSlotName c6.store x.0 x.1 name)
                    (λ x name. slot_stays c2.store c6.store later_than_2 x.0 x.1 name) (zip i.slots (slots_of bare)) c2.store.pairs c6.store.pairs later_than_2.pairs c1.depth c2.names.slots slots_2));
                queues = subst (λ d. AreLeaves (λ (row : ThreadRow) name. IsQueueName c6.store row.queue name) bare.rows c6.store.pairs d c6.names.queues) (sym depth_2)
                    (subst (AreLeaves (λ (row : ThreadRow) name. IsQueueName c6.store row.queue name) bare.rows c6.store.pairs c2.depth) (sym queues_name)
                    (leaves_stay_named (λ (row : ThreadRow) name. IsQueueName c3.store row.queue name) (λ (row : ThreadRow) name. IsQueueName c6.store row.queue name)
                    (λ row name. queue_stays c3.store c6.store later_than_3 row.queue name) bare.rows c3.store.pairs c6.store.pairs later_than_3.pairs c2.depth c3.names.queues queues_3));
                outputs = subst (AreLeaves (IsOutputName c6.store) bare.outputs c6.store.pairs 6) (sym outputs_name)
                    (leaves_stay_named (IsOutputName c4.store) (IsOutputName c6.store) (output_stays c4.store c6.store later_than_4) bare.outputs c4.store.pairs c6.store.pairs later_than_4.pairs 6 c4.names.outputs outputs_4);
                memory = subst (λ (m : Memory). AreMemoryNames c6.store m c6.names) memory_now
                    (subst (AreMemoryNames c6.store c5.mem.memory) (sym names_5) (memory_stays c5.store c6.store more c5.mem.memory c5.names memory.names));
              }
                where
                  memory_now : c5.mem.memory ≡ (turn_of s t.item).memory
                  memory_now = ap (λ (x : code.Configs). x.mem.memory) (sym last) ∙ ap (λ x. x.memory) mem_same ∙ t.memory

              pub stands_after : Stands i (record t.at { machine = next }) c6
              unfolding configuration after
              stands_after =
                  stands_at i t.at next t.was c6 t.stands parts.base (ap (λ x. map identity_of x.items) parts.slots) parts.depth parts.kept
                  (subst (λ (k : Store). IsKeptStill k c6.store) (ap (λ (x : code.Configs). x.store) rest_1) later_than_1)
                  (record {
                    core = ap (λ (x : code.Configs). x.core) last ∙ ap (λ (x : code.Configs). x.core) memory.others ∙ core_4;
                    memory = ap (λ x. x.memory) mem_same ∙ t.memory;
                    config = next_config i s t.item t.stands.image config at inside own;
                    uses = subst (λ n. n < 2 ^ 61) (ap (λ x. x.uses) (sym mem_same)) t.uses;
                    mapped = ap (λ (x : code.Configs). x.mapped.items) last ∙ memory.mapped ∙ ap mapped_pages (ap (λ (x : code.Configs). x.mem.memory) (sym last) ∙ ap (λ x. x.memory) mem_same ∙ t.memory);
                  })
                  (record { names = named; rest = rest })
