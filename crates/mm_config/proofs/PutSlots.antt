-- A machine that is put to other slots, where the rest of its configuration stays.
use Rattle.std.proofs.Common.{◌≡◌, inr, ℕ, ◌<◌, List, [], length, get_or, refl, sym, ap, ◌∙◌, subst}
use Rattle.std.proofs.lemmas.List.{get_or-map}
use Rattle.std.proofs.Math.Seq.{take-length}
use Rattle.std.specs.List.{AllByRecursion}
use Rattle.mm_model.specs.{declared.event.Event.Event, Slot.Slot, State.{Core, ThreadRow, output_of}}
use Rattle.mm_thread.specs.{declared.restore.Revision.Revision, SlotIndices.{no_row, queue_in}, Revisions.{queues_in, outputs_in, revised}}
use Rattle.mm_model.specs.Flags.{flags}
use Rattle.mm_config.specs.declared.configs.Configs as code
use Rattle.mm_config.specs.declared.names.Names.{Names}
use Rattle.mm_config.specs.{Keeping.Stands, Naming.IsKeptOnce, Noting.{mapped_pages}}
use Rattle.mm_config.specs.Reaching.{HasConfiguration, Reaches, HasPutCore, HasReadSlots, HasReadQueues, HasReadOutputs, Extends}
use Rattle.mm_config.proofs.{NamedOnce.rests_tell, OneConfig.{same_queues, same_outputs, same_memory}, Reached.as_many, Standing.{reaches_it, MayRevise, may_revise, has_put, put_stands}}

-- 1. What has the same names stays.

module _ (wanted : Names) (c : code.Configs) (once : IsKeptOnce c.store) (r : Reaches wanted c) where
  queues_stay : c.names.queues ≡ wanted.queues → (k : ℕ) → k < length c.core.rows → queue_in c.core k ≡ queue_in r.state.core k
  queues_stay e k lt =
      let all = same_queues r.image c.depth c.store r.at.machine r.state c.names wanted r.stands.image once r.stands.machine.config.state r.config.state r.stands.named.names r.names e in
      let core = r.stands.machine.core in
      let inside : k < length r.at.machine.core.rows = subst (λ (x : Core). k < length x.rows) core lt in
      let too : k < length r.state.core.rows = subst (λ n. k < n) (as_many wanted c r) inside in
      ap (λ (x : Core). queue_in x k) core
      ∙ sym (get_or-map (λ (row : ThreadRow). row.queue) r.at.machine.core.rows k no_row [] inside)
      ∙ ap (λ (l : List (List Event)). get_or l k []) all
      ∙ get_or-map (λ (row : ThreadRow). row.queue) r.state.core.rows k no_row [] too

  outputs_stay : c.names.outputs ≡ wanted.outputs → (g : ℕ) → output_of c.core g ≡ output_of r.state.core g
  unfolding output_of
  outputs_stay e g =
      let all = same_outputs r.image c.depth c.store r.at.machine r.state c.names wanted r.stands.image once r.stands.machine.config.state r.config.state r.stands.named.names r.names e in
      ap (λ (k : Core). get_or k.outputs g []) r.stands.machine.core ∙ ap (λ outputs. get_or outputs g []) all

-- 2. Another configuration with the same rest.

module _ (c0 : code.Configs) (slots : ℕ) (once : IsKeptOnce c0.store) where
  abbrev pub wanted : Names
  wanted = record c0.names { slots = slots }

  module _ (h : HasConfiguration c0 (slots, c0.rest)) where
    abbrev key : ℕ × ℕ
    key = (slots, c0.rest)

    four : (c0.names.queues ≡ h.is.names.queues) × (c0.names.outputs ≡ h.is.names.outputs) × (c0.names.height ≡ h.is.names.height) × (c0.names.pages ≡ h.is.names.pages)
    four = rests_tell c0.store.pairs c0.names h.is.names c0.rest c0.rest refl h.stands.named.rest h.is.rest

    pub is : wanted ≡ h.is.names
    is = let slots_is = h.is.slots in let f = four in λ j. record { slots = slots_is j; queues = f.0 j; outputs = f.1 j; height = f.2 j; pages = f.3 j }

    abbrev pub reaches : Reaches wanted c0
    reaches = reaches_it c0 key h wanted is

    module _ (c1 : code.Configs) (mask : ℕ) (first : (r : Reaches wanted c0) → HasReadSlots r.state.core c0 c1 mask) (revision : Revision)
        (no_queues : queues_in revision ≡ []) (no_outputs : outputs_in revision ≡ []) where
      abbrev pub c2 : code.Configs
      c2 = record c1 { revision = revision }

      others : c1 ≡ record c0 { slots = c1.slots; revision = c1.revision; changed = c1.changed }
      others = (first reaches).others

      once_1 : IsKeptOnce c1.store
      once_1 = subst IsKeptOnce (sym (ap (λ (c : code.Configs). c.store) others)) once

      second : (r : Reaches wanted c1) → HasReadQueues r.state.core c1 c2
      second r = record {
        queues = subst (AllByRecursion (λ (x : ℕ × List Event). (x.0 < length c1.core.rows) × (x.1 ≡ queue_in r.state.core x.0))) (sym no_queues) tt;
        rest = λ k lt. inr (queues_stay wanted c1 once_1 r (ap (λ (c : code.Configs). c.names.queues) others) k lt);
        room = refl;
        others = refl;
      }

      third : (r : Reaches wanted c2) → HasReadOutputs r.state.core c2 c2
      third r = record {
        outputs = subst (AllByRecursion (Extends c2.core r.state.core)) (sym no_outputs) tt;
        rest = λ g lt. inr (outputs_stay wanted c2 once_1 r (ap (λ (c : code.Configs). c.names.outputs) others) g);
        queues = refl;
        room = refl;
        others = refl;
      }

      pub revise_so : (l : List Slot) → l ≡ c2.slots.items → MayRevise c2.core h.state.core l mask revision
      revise_so l e = may_revise wanted c0 c1 c2 c2 mask first second third reaches l e

      module _ (l : List Slot) (e : l ≡ c2.slots.items) (core : Core) (made : core ≡ revised c2.core (flags (length l) mask) l (queues_in revision) (outputs_in revision)) where
        abbrev c3 : code.Configs
        c3 = record c2 { core = core }

        abbrev c4 : code.Configs
        c4 = record c3 { names = wanted }

        put : HasPutCore h.state.core c0 c3
        put = has_put wanted c0 c1 c2 c2 mask first second third reaches l e core made

        memory_stays : h.at.machine.memory ≡ h.state.memory
        memory_stays =
            let f = four in
            same_memory h.image c0.depth c0.store h.at.machine h.state c0.names h.is.names h.stands.image once h.stands.machine.config.state h.config.state h.stands.named.names h.is.are f.2 f.3

        memory : c4.mem.memory ≡ h.state.memory
        memory = ap (λ (c : code.Configs). c.mem.memory) put.others ∙ h.stands.machine.memory ∙ memory_stays

        pub stands_so : Stands h.image (record h.at { machine = h.state }) c4
        stands_so =
            put_stands c0 c3 c4 key h put (record { pairs = take-length c3.store.pairs; cells = take-length c3.store.cells; others = refl }) memory refl
            (ap (λ (c : code.Configs). c.mapped.items) put.others ∙ h.stands.machine.mapped ∙ ap mapped_pages (memory_stays ∙ sym memory)) is
            (ap (λ (c : code.Configs). c.rest) put.others) refl
