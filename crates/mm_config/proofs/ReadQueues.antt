-- Reading the queues whose names differ.
use Rattle.std.proofs.Common.{◌≡◌, ◌⊎◌, inl, inr, ℕ, ◌<◌, ◌≤◌, List, [], map, length, slice_get, Some, refl, sym, ap, ◌∙◌, subst, arith}
use Rattle.std.specs.List.{AllByRecursion}
use Rattle.mm_model.specs.{declared.event.Event.Event, Image.Image, State.{ThreadRow, Core, State}}
use Rattle.mm_model.proofs.CoreRows.{each_get}
use Rattle.mm_thread.specs.{SlotIndices.{no_row, queue_in}, Revisions.queues_in}
use Rattle.mm_pairs.specs.{Named.named, Trees.{leaves, changed}}
use Rattle.mm_config.specs.declared.configs.Configs as code
use Rattle.mm_config.specs.declared.{store.Store.Store, names.Names.Names}
use Rattle.mm_config.specs.Reads as reads
use Rattle.mm_config.specs.{Forms.{queue_form, queue_from}, Keeping.IsConfigurationOf, Naming.{IsQueueName, leaf_at}, Reaching.{Reaches, KeepsAll, IsListed, HasReadQueues}}
use Rattle.mm_config.proofs.{ChangedLeaves.{leaf_named, entry, left, all_at, all_map, listed_map}, Reached.as_many}
use Rattle.mm_config.proofs.{Keepables.queues_kept, EventForms.{IsKeptEvent, queue_read, queue_tells}}

abbrev pub queue_changes : Names → code.Configs → List (ℕ × ℕ)
queue_changes wanted c = changed 0 (leaves c.store.pairs c.depth c.names.queues) (leaves c.store.pairs c.depth wanted.queues)

-- 1. Each change is to a queue that is wanted.

events_kept : (i : Image) (s : State) → IsConfigurationOf i s → (p : ℕ) → p < length s.core.rows → AllByRecursion IsKeptEvent (queue_in s.core p)
events_kept i s config p lt = each_get (λ (row : ThreadRow). AllByRecursion IsKeptEvent row.queue) s.core.rows p no_row (queues_kept i s config.state) lt

abbrev IsRowName : Store → ThreadRow → ℕ → Type 0
IsRowName k row name = IsQueueName k row.queue name

module _ (wanted : Names) (c : code.Configs) (r : Reaches wanted c) where
  pub queue_entry : (j : ℕ) (e : ℕ × ℕ) → slice_get (queue_changes wanted c) j ≡ Some e → (e.0 < length r.state.core.rows) × IsQueueName c.store (queue_in r.state.core e.0) e.1
  queue_entry j e got =
      let h = entry (IsRowName c.store) no_row r.at.machine.core.rows r.state.core.rows c.store.pairs c.depth c.names.queues wanted.queues r.stands.named.names.queues r.names.queues (as_many wanted c r) j e got in
      (h.0, h.1)

  pub queue_back : (e : ℕ × ℕ) → (e.0 < length r.state.core.rows) × IsQueueName c.store (queue_in r.state.core e.0) e.1 → queue_from (named [] c.store.lists e.1) ≡ queue_in r.state.core e.0
  queue_back e h = ap queue_from h.1.is ∙ queue_read (queue_in r.state.core e.0) (events_kept r.image r.state r.config e.0 h.0)

  pub queue_left : (p : ℕ) → p < length r.state.core.rows
      → ((j : ℕ) × (slice_get (queue_changes wanted c) j ≡ Some (p, leaf_at c.store.pairs c.depth wanted.queues p))) ⊎ (queue_in r.at.machine.core p ≡ queue_in r.state.core p)
  queue_left p lt =
      let a = r.at.machine in
      let s = r.state in
      let Is = IsRowName c.store in
      let own = r.stands.named.names.queues in
      let many = as_many wanted c r in
      let low : p < length a.core.rows = omega (arith, lt, many) in
      elim (left Is no_row a.core.rows s.core.rows c.store.pairs c.depth c.names.queues wanted.queues own r.names.queues many p lt) [
        | inl h ↦ inl h
        | inr same ↦
            let one = leaf_named Is no_row a.core.rows c.store.pairs c.depth c.names.queues own p low in
            let two = leaf_named Is no_row s.core.rows c.store.pairs c.depth wanted.queues r.names.queues p lt in
            let forms : queue_form (queue_in a.core p) ≡ queue_form (queue_in s.core p) = sym one.is ∙ ap (named [] c.store.lists) same ∙ two.is in
            inr (queue_tells (queue_in a.core p) (queue_in s.core p) (events_kept r.image a r.stands.machine.config p low) (events_kept r.image s r.config p lt) forms)
      ]

-- 2. All queues.

pub kept_names : (wanted : Names) (c : code.Configs) → Reaches wanted c → AllByRecursion (λ (e : ℕ × ℕ). e.1 ≤ length c.store.lists) (queue_changes wanted c)
kept_names wanted c r = all_at (λ (e : ℕ × ℕ). e.1 ≤ length c.store.lists) (queue_changes wanted c) (λ j e got. (queue_entry wanted c r j e got).1.within)

pub queues_are_read : (wanted : Names) (c : code.Configs) (r : Reaches wanted c) (now : code.Configs) → queues_in now.revision ≡ map (reads.queue_read c.store.lists) (queue_changes wanted c)
    → now.slots ≡ c.slots → KeepsAll c now → HasReadQueues r.state.core c now
queues_are_read wanted c r now is room others =
    let core = r.stands.machine.core in
    let many = as_many wanted c r in
    let rows = ap (λ (k : Core). length k.rows) core in
    let Queued : ℕ × List Event → Type 0 = λ x. (x.0 < length c.core.rows) × (x.1 ≡ queue_in r.state.core x.0) in
    record {
      queues = subst (AllByRecursion Queued) (sym is) (all_map (reads.queue_read c.store.lists) Queued (queue_changes wanted c)
          (all_at (λ (e : ℕ × ℕ). Queued (reads.queue_read c.store.lists e)) (queue_changes wanted c) (λ j e got.
          let h = queue_entry wanted c r j e got in
          let low = h.0 in
          (omega (arith, low, rows, many), queue_back wanted c r e h))));
      rest = λ p lt. elim (queue_left wanted c r p (omega (arith, lt, rows, many))) [
        | inl h ↦ inl (subst (IsListed (λ (x : ℕ × List Event). x.0) p) (sym is)
            (listed_map (reads.queue_read c.store.lists) (λ (x : ℕ × List Event). x.0) (λ e. refl) (queue_changes wanted c) h.0 (p, leaf_at c.store.pairs c.depth wanted.queues p) h.1))
        | inr same ↦ inr (ap (λ (k : Core). queue_in k p) core ∙ same)
      ];
      room = room;
      others = others;
    }
