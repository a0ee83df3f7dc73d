-- A machine that is put to another configuration.
use Rattle.std.proofs.Common.{◌≡◌, ◌⊎◌, Vec, Global, ℕ, ◌+◌, ◌<◌, ◌≤◌, ◌^◌, List, map, length, take, false, if◌then◌else◌, slice_index_or, sym, ap, ◌∙◌, subst, arith, length-append}
use Rattle.std.proofs.lemmas.List.{length-map, length-take-le}
use Rattle.std.specs.List.{AllByRecursion, AllZip}
use Rattle.mm_model.specs.{declared.event.Event.Event, Slot.Slot, Flags.flags, Memory.{Memory, IsPaged}, Image.Image, State.{Core, State, output_of}}
use Rattle.mm_model.specs.{Fits.{slots_of, identity_of, IsCore}}
use Rattle.mm_model.proofs.{Bytes.Bitmaps.length-flags, CoreRows.each_map, Shortness.queue_short}
use Rattle.mm_thread.specs.{declared.restore.Revision.Revision, SlotIndices.{no_slot, slot_in, queue_in}, Revisions.{Extension, queue_in_place, queues_in, outputs_in, revised}}
use Rattle.mm_thread.proofs.{Cores.output_short, Index.queue_found, RowIndex.apart_in}
use Rattle.mm_config.specs.declared.configs.Configs as code
use Rattle.mm_config.specs.declared.{store.Store.Store, names.Names.Names}
use Rattle.mm_config.specs.{Machines.Configs, Naming.{AreNamesOf, AreMemoryNames, IsRest, IsKeptOnce}, Noting.{IsKeptStill, HasMoreCells, mapped_pages}}
use Rattle.mm_config.specs.Keeping.{IsConfigurationOf, IsKeyOf, IsMachineAt, HasNamesOf, Stands}
use Rattle.mm_config.specs.Reaching.{HasConfiguration, Reaches, HasPutCore, HasPutMemory, KeepsAll, HasReadSlots, HasReadQueues, HasReadOutputs, IsListed, Extends}
pub use Rattle.mm_config.proofs.Reached.{config_core}
use Rattle.mm_config.proofs.{Reached.{slots_rows, own, aim, base_rows, as_many, groups, few_base}, Keys.key_tells, Zips.{zip_long, zip_from, each_at}, Noted.{still_more, memory_more}, SamePlaces.same_mapped, Staying.{keys_stay, names_stay, rest_stays}, Revising.{LeadsTo, revised_is}}

-- 1. A machine stands if it is at a configuration, with its names, and if what was kept still is.

pub stands_at : (i : Image) (v : Configs) (s : State) (old new : code.Configs) → Stands i v old → new.base ≡ old.base
    → map identity_of new.slots.items ≡ map identity_of old.slots.items → new.depth ≡ old.depth → new.kept ≡ old.kept
    → IsKeptStill old.store new.store → IsMachineAt i s new → HasNamesOf i s new → Stands i (record v { machine = s }) new
stands_at i v s old new h base room depth kept still machine named = record {
  image = h.image;
  base = ap (λ b. b.items) base ∙ h.base;
  room = room ∙ h.room;
  depth = subst (λ d. d ≤ 6) (sym depth) h.depth;
  machine = machine;
  named = named;
  configs = h.configs;
  each = subst (λ d. AllZip (IsKeyOf i.slots d new.store) v.kept new.kept) (sym depth)
      (subst (λ k. AllZip (IsKeyOf i.slots old.depth new.store) v.kept k) (sym kept)
      (keys_stay old.store new.store still i.slots old.depth v.kept old.kept h.each));
  few = h.few;
}

-- with other room it stands as well
pub stands_still : (i : Image) (v : Configs) (old new : code.Configs) → Stands i v old → KeepsAll old new
    → map identity_of new.slots.items ≡ map identity_of old.slots.items → Stands i v new
stands_still i v old new h others room = subst (Stands i v) (sym others) (record {
  image = h.image;
  base = h.base;
  room = room ∙ h.room;
  depth = h.depth;
  machine = record { core = h.machine.core; memory = h.machine.memory; config = h.machine.config; uses = h.machine.uses; mapped = h.machine.mapped };
  named = record { names = h.named.names; rest = h.named.rest };
  configs = h.configs;
  each = h.each;
  few = h.few;
})

-- and reaches what it reached
abbrev pub reaches_still : (wanted : Names) (old new : code.Configs) → Reaches wanted old → KeepsAll old new
    → map identity_of new.slots.items ≡ map identity_of old.slots.items → Reaches wanted new
reaches_still wanted old new r others room = record {
  image = r.image;
  at = r.at;
  state = r.state;
  stands = stands_still r.image r.at old new r.stands others room;
  config = r.config;
  names = subst (λ (c : code.Configs). AreNamesOf r.image.slots c.depth c.store r.state wanted) (sym others) r.names;
}

-- 2. Where a key leads.

module _ (c : code.Configs) (key : ℕ × ℕ) (h : HasConfiguration c key) where
  -- the machine is there already
  pub there_already : IsKeptOnce c.store → key ≡ (c.names.slots, c.rest) → Stands h.image (record h.at { machine = h.state }) c
  there_already once e =
      let st = h.stands in
      let same = key_tells h.image h.state h.at.machine c.depth c.store c.names c.rest key st.image once h.config st.machine.config st.named.names st.named.rest h.is e in
      subst (λ (s : State). Stands h.image (record h.at { machine = s }) c) (sym same) st

  pub wanted_is : (w : Names) → ((n : Names) → IsRest c.store.pairs n key.1 → w ≡ record n { slots = key.0 }) → w ≡ h.is.names
  wanted_is w is = is h.is.names h.is.rest ∙ ap (λ x. record h.is.names { slots = x }) h.is.slots

  abbrev pub reaches_it : (w : Names) → w ≡ h.is.names → Reaches w c
  reaches_it w e = record {
    image = h.image;
    at = h.at;
    state = h.state;
    stands = h.stands;
    config = h.config;
    names = subst (AreNamesOf h.image.slots c.depth c.store h.state) (sym e) h.is.are;
  }

-- the configuration of a key that is kept
pub kept_long : (i : Image) (v : Configs) (c : code.Configs) → Stands i v c → length v.kept ≡ length c.kept
kept_long i v c h = zip_long (IsKeyOf i.slots c.depth c.store) v.kept c.kept h.each

abbrev pub has_kept : (i : Image) (v : Configs) (c : code.Configs) → Stands i v c → (at : ℕ) (key : ℕ × ℕ) → at < length v.kept → key ≡ slice_index_or c.kept at (0, 0) → HasConfiguration c key
has_kept i v c h at key lt same = record {
  image = i;
  at = v;
  state = slice_index_or v.kept at v.machine;
  stands = h;
  config = each_at (IsConfigurationOf i) v.kept h.configs at v.machine lt;
  is = subst (IsKeyOf i.slots c.depth c.store (slice_index_or v.kept at v.machine)) (sym same) (zip_from (IsKeyOf i.slots c.depth c.store) v.kept c.kept h.each at v.machine (0, 0) lt);
}

-- 3. The core.

-- what revising asks, and leads to
pub record MayRevise (core to : Core) (slots : List Slot) (mask : ℕ) (revision : Revision) : Type 0 where
  pub whole : IsCore (revised core (flags (length slots) mask) slots (queues_in revision) (outputs_in revision))
  pub same : map identity_of slots ≡ map identity_of (slots_of core)
  pub few : length slots ≤ 64
  pub queues : AllByRecursion (λ (x : ℕ × List Event). (x.0 < length slots) × (length x.1 ≤ 64)) (queues_in revision)
  pub outputs : AllByRecursion (λ (x : Extension). (x.group < 64) × (x.kept + length x.bytes ≤ 65536)) (outputs_in revision)
  pub is : revised core (flags (length slots) mask) slots (queues_in revision) (outputs_in revision) ≡ to

module _ (wanted : Names) (c0 c1 c2 c3 : code.Configs) (mask : ℕ) (first : (r : Reaches wanted c0) → HasReadSlots r.state.core c0 c1 mask)
    (second : (r : Reaches wanted c1) → HasReadQueues r.state.core c1 c2) (third : (r : Reaches wanted c2) → HasReadOutputs r.state.core c2 c3) (r : Reaches wanted c0) where
  abbrev was : Core
  was = r.at.machine.core

  abbrev to : Core
  to = r.state.core

  one : HasReadSlots to c0 c1 mask
  one = first r

  abbrev r1 : Reaches wanted c1
  r1 = reaches_still wanted c0 c1 r one.others one.room

  two : HasReadQueues to c1 c2
  two = second r1

  three : HasReadOutputs to c2 c3
  three = third (reaches_still wanted c1 c2 r1 two.others (ap (λ s. map identity_of s.items) two.room))

  from : IsCore was
  from = own wanted c0 r

  goal : IsCore to
  goal = aim wanted c0 r

  core_1 : c1.core ≡ was
  core_1 = ap (λ (c : code.Configs). c.core) one.others ∙ r.stands.machine.core

  core_2 : c2.core ≡ was
  core_2 = ap (λ (c : code.Configs). c.core) two.others ∙ core_1

  core_3 : c3.core ≡ was
  core_3 = ap (λ (c : code.Configs). c.core) three.others ∙ core_2

  room : map identity_of c3.slots.items ≡ map identity_of r.image.slots
  room = ap (λ s. map identity_of s.items) (three.room ∙ two.room) ∙ one.room ∙ r.stands.room

  many : length c3.slots.items ≡ length was.rows
  many = sym (length-map c3.slots.items identity_of) ∙ ap length room ∙ length-map r.image.slots identity_of ∙ slots_rows r.image r.at.machine r.stands.machine.config

  slots_lead : (k : ℕ) → k < length was.rows
      → (if slice_index_or (flags (length c3.slots.items) mask) k false then slice_index_or c3.slots.items k no_slot else slot_in was k) ≡ slot_in to k
  slots_lead k lt =
      let long : length c0.base.items ≡ length c3.slots.items = base_rows wanted c0 r ∙ sym many in
      let items : c1.slots.items ≡ c3.slots.items = ap (λ s. s.items) (sym (three.room ∙ two.room)) in
      subst (λ n. (if slice_index_or (flags n mask) k false then slice_index_or c3.slots.items k no_slot else slot_in was k) ≡ slot_in to k) long
      (subst (λ (l : List Slot). (if slice_index_or (flags (length c0.base.items) mask) k false then slice_index_or l k no_slot else slot_in was k) ≡ slot_in to k) items
      (subst (λ (core : Core). (if slice_index_or (flags (length c0.base.items) mask) k false then slice_index_or c1.slots.items k no_slot else slot_in core k) ≡ slot_in to k)
      r.stands.machine.core (one.slots k (omega (arith, base_rows wanted c0 r, lt)))))

  abbrev Queued : ℕ × List Event → Type 0
  Queued x = (x.0 < length was.rows) × (x.1 ≡ queue_in to x.0)

  queued : AllByRecursion Queued (queues_in c3.revision)
  queued =
      subst (λ (q : Vec (ℕ × Vec Event Global) Global). AllByRecursion Queued (map queue_in_place q.items)) (sym three.queues)
      (subst (λ (core : Core). AllByRecursion (λ (x : ℕ × List Event). (x.0 < length core.rows) × (x.1 ≡ queue_in to x.0)) (queues_in c2.revision)) core_1 two.queues)

  extended : AllByRecursion (Extends was to) (outputs_in c3.revision)
  extended = subst (λ (core : Core). AllByRecursion (Extends core to) (outputs_in c3.revision)) core_2 three.outputs

  leads : LeadsTo was to (flags (length c3.slots.items) mask) c3.slots.items (queues_in c3.revision) (outputs_in c3.revision)
  leads = record {
    rows = as_many wanted c0 r;
    groups = groups wanted c0 r;
    version = r.stands.machine.config.state.fits.version ∙ sym r.config.state.fits.version;
    split = r.stands.machine.config.state.fits.split ∙ sym r.config.state.fits.split;
    flags = length-flags (length c3.slots.items) mask ∙ many;
    many = many;
    slots = slots_lead;
    queues = each_map Queued (λ (x : ℕ × List Event). x.1 ≡ queue_in to x.0) (λ x h. h.1) (queues_in c3.revision) queued;
    other_queues = λ k lt.
        subst (λ (q : Vec (ℕ × Vec Event Global) Global). IsListed (λ (x : ℕ × List Event). x.0) k (map queue_in_place q.items) ⊎ (queue_in was k ≡ queue_in to k)) (sym three.queues)
        (subst (λ (core : Core). IsListed (λ (x : ℕ × List Event). x.0) k (queues_in c2.revision) ⊎ (queue_in core k ≡ queue_in to k)) core_1
        (two.rest k (subst (λ (core : Core). k < length core.rows) (sym core_1) lt)));
    outputs = extended;
    other_outputs = λ g lt.
        subst (λ (core : Core). IsListed (λ (x : Extension). x.group) g (outputs_in c3.revision) ⊎ (output_of core g ≡ output_of to g)) core_2
        (three.rest g (subst (λ (core : Core). g < length core.outputs) (sym core_2) lt));
  }

  short_queue : (k : ℕ) → k < length to.rows → length (queue_in to k) ≤ 64
  short_queue k lt =
      subst (λ (q : List Event). length q ≤ 64) (queue_found to (apart_in to goal) k lt) (queue_short to goal.matched (slot_in to k).number goal.formed)

  pub short_queues : AllByRecursion (λ (x : ℕ × List Event). (x.0 < length c3.slots.items) × (length x.1 ≤ 64)) (queues_in c3.revision)
  short_queues = each_map Queued (λ (x : ℕ × List Event). (x.0 < length c3.slots.items) × (length x.1 ≤ 64)) (λ x h.
      let inside = h.0 in
      (omega (arith, many, inside), subst (λ (q : List Event). length q ≤ 64) (sym h.1) (short_queue x.0 (omega (arith, as_many wanted c0 r, inside)))))
      (queues_in c3.revision) queued

  pub short_outputs : AllByRecursion (λ (x : Extension). (x.group < 64) × (x.kept + length x.bytes ≤ 65536)) (outputs_in c3.revision)
  short_outputs = each_map (Extends was to) (λ (x : Extension). (x.group < 64) × (x.kept + length x.bytes ≤ 65536)) (λ x e.
      let inside = e.inside in
      let groups = from.formed.outputs in
      let cut : length (take x.kept (output_of was x.group)) ≡ x.kept = length-take-le x.kept (output_of was x.group) e.kept in
      let both = length-append (take x.kept (output_of was x.group)) x.bytes in
      let all = ap length e.is in
      let short = output_short to goal x.group in
      (omega (arith, inside, groups), omega (arith, cut, both, all, short)))
      (outputs_in c3.revision) extended

  pub may_revise : (slots : List Slot) → slots ≡ c3.slots.items → MayRevise c3.core to slots mask c3.revision
  may_revise slots e =
      let is =
      ap (λ (k : Core). revised k (flags (length c3.slots.items) mask) c3.slots.items (queues_in c3.revision) (outputs_in c3.revision)) core_3
      ∙ revised_is was to (flags (length c3.slots.items) mask) c3.slots.items (queues_in c3.revision) (outputs_in c3.revision) leads in
      let few = few_base wanted c0 r in
      let base = base_rows wanted c0 r in
      subst (λ (l : List Slot). MayRevise c3.core to l mask c3.revision) (sym e) (record {
        whole = subst IsCore (sym is) goal;
        same = room ∙ sym r.stands.machine.config.state.fits.same_slots ∙ ap (λ (k : Core). map identity_of (slots_of k)) (sym core_3);
        few = omega (arith, many, few, base);
        queues = short_queues;
        outputs = short_outputs;
        is = is;
      })

  pub has_put : (slots : List Slot) → slots ≡ c3.slots.items → (core : Core) → core ≡ revised c3.core (flags (length slots) mask) slots (queues_in c3.revision) (outputs_in c3.revision)
      → HasPutCore to c0 (record c3 { core = core })
  has_put slots e core is = record {
    is = is ∙ (may_revise slots e).is;
    room = ap (λ s. map identity_of s.items) (three.room ∙ two.room) ∙ one.room;
    others = ap (λ (c : code.Configs). record c { core = core; slots = c3.slots; revision = c3.revision; changed = c3.changed })
        (three.others ∙ ap (λ (c : code.Configs). record c { slots = c3.slots; revision = c3.revision; changed = c3.changed })
        (two.others ∙ ap (λ (c : code.Configs). record c { slots = c2.slots; revision = c2.revision; changed = c2.changed }) one.others));
  }

-- 4. The memory, after the core.

module _ (c0 c1 : code.Configs) (key : ℕ × ℕ) (h : HasConfiguration c0 key) (core : HasPutCore h.state.core c0 c1) where
  pub memory_before : AreMemoryNames c1.store c1.mem.memory c1.names
  memory_before =
      subst (λ (c : code.Configs). AreMemoryNames c.store c.mem.memory c.names) (sym core.others)
      (subst (λ m. AreMemoryNames c0.store m c0.names) (sym h.stands.machine.memory) h.stands.named.names.memory)

  pub memory_wanted : (w : Names) → w ≡ h.is.names → AreMemoryNames c1.store h.state.memory w
  memory_wanted w e =
      subst (λ (c : code.Configs). AreMemoryNames c.store h.state.memory w) (sym core.others) (subst (AreMemoryNames c0.store h.state.memory) (sym e) h.is.are.memory)

  pub is_paged : IsPaged h.state.memory
  is_paged = record { pages = h.config.state.state.pages; fitting = h.config.state.fits.mapped }

  pub same_frames : h.state.memory.frames ≡ c1.mem.memory.frames
  same_frames =
      h.config.state.fits.frames ∙ sym h.stands.machine.config.state.fits.frames ∙ ap (λ (m : Memory). m.frames) (sym h.stands.machine.memory)
      ∙ ap (λ (c : code.Configs). c.mem.memory.frames) (sym core.others)

  -- the memory is put, and the pages that are listed are those of a memory with the same pages
  pub put_memory_so : (w : Names) → w ≡ h.is.names → (c2 : code.Configs) → HasMoreCells c1.store c2.store → c2.mem.memory ≡ h.state.memory → c2.names ≡ c1.names → c2.mapped ≡ c1.mapped
      → HasPutMemory w c2
  put_memory_so w e c2 more is names mapped =
      let before : AreMemoryNames c1.store h.at.machine.memory c1.names =
      subst (λ (c : code.Configs). AreMemoryNames c.store h.at.machine.memory c.names) (sym core.others) h.stands.named.names.memory in
      let was : AreMemoryNames c2.store h.at.machine.memory c2.names =
      subst (AreMemoryNames c2.store h.at.machine.memory) (sym names) (memory_more c1.store c2.store more h.at.machine.memory c1.names before) in
      let now = memory_more c1.store c2.store more h.state.memory w (memory_wanted w e) in
      let at = h.stands.machine.config.state in
      record {
        was = was.tree.inner;
        now = now.tree.inner;
        listed = λ high same.
            ap (λ v. v.items) mapped ∙ ap (λ (c : code.Configs). c.mapped.items) core.others ∙ h.stands.machine.mapped
            ∙ same_mapped c2.store h.at.machine.memory h.state.memory c2.names w (record { pages = at.state.pages; fitting = at.fits.mapped }) is_paged was now high same
            ∙ ap mapped_pages (sym is);
      }

-- 5. All.

module _ (c0 c1 c4 : code.Configs) (key : ℕ × ℕ) (h : HasConfiguration c0 key) (core : HasPutCore h.state.core c0 c1) (more : HasMoreCells c1.store c4.store)
    (memory : c4.mem.memory ≡ h.state.memory) (uses : c4.mem.uses ≡ c1.mem.uses) (mapped : c4.mapped.items ≡ mapped_pages c4.mem.memory) (names : c4.names ≡ h.is.names) (rest : c4.rest ≡ key.1)
    (others : c4 ≡ record c1 { mem = c4.mem; mapped = c4.mapped; store = c4.store; names = c4.names; rest = c4.rest; changed = c4.changed; changed_cells = c4.changed_cells }) where
  stays : IsKeptStill c0.store c4.store
  stays = subst (λ (k : Store). IsKeptStill k c4.store) (ap (λ (c : code.Configs). c.store) core.others) (still_more c1.store c4.store more)

  depth_is : c4.depth ≡ c0.depth
  depth_is = ap (λ (c : code.Configs). c.depth) others ∙ ap (λ (c : code.Configs). c.depth) core.others

  pub put_stands : Stands h.image (record h.at { machine = h.state }) c4
  put_stands =
      stands_at h.image h.at h.state c0 c4 h.stands
      (ap (λ (c : code.Configs). c.base) others ∙ ap (λ (c : code.Configs). c.base) core.others)
      (ap (λ (c : code.Configs). map identity_of c.slots.items) others ∙ core.room)
      depth_is
      (ap (λ (c : code.Configs). c.kept) others ∙ ap (λ (c : code.Configs). c.kept) core.others)
      stays
      (record {
        core = ap (λ (c : code.Configs). c.core) others ∙ core.is;
        memory = memory;
        config = h.config;
        uses = subst (λ n. n < 2 ^ 61) (sym (uses ∙ ap (λ (c : code.Configs). c.mem.uses) core.others)) h.stands.machine.uses;
        mapped = mapped ∙ ap mapped_pages memory;
      })
      (record {
        names = subst (λ d. AreNamesOf h.image.slots d c4.store h.state c4.names) (sym depth_is)
            (subst (AreNamesOf h.image.slots c0.depth c4.store h.state) (sym names) (names_stay c0.store c4.store stays h.image.slots c0.depth h.state h.is.names h.is.are));
        rest = subst (λ (n : Names). IsRest c4.store.pairs n c4.rest) (sym names) (subst (IsRest c4.store.pairs h.is.names) (sym rest) (rest_stays c0.store c4.store stays h.is.names key.1 h.is.rest));
      })
