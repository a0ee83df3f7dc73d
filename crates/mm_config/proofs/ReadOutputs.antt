-- Reading the outputs whose names differ.
use Rattle.std.proofs.Common.{◌≡◌, ◌⊎◌, inl, inr, ℕ, ◌<◌, ◌≤◌, List, [], ◌++◌, length, take, slice_get, slice_index_or, Some, sym, ap, ◌∙◌, subst, arith}
use Rattle.std.specs.List.{AllByRecursion, AllZip}
use Rattle.mm_model.specs.State.{Core, output_of}
use Rattle.mm_model.proofs.CoreRows.{each_get}
use Rattle.mm_thread.specs.Revisions.{Extension, outputs_in}
use Rattle.mm_pairs.specs.Trees.{leaves, changed}
use Rattle.mm_config.specs.declared.configs.Configs as code
use Rattle.mm_config.specs.declared.names.Names.{Names}
use Rattle.mm_config.specs.{Naming.{IsOutputName, leaf_at}, Reaching.{Reaches, KeepsAll, Extends, HasReadOutputs}, Reads.{IsOutputChange, IsOutputRead}}
use Rattle.mm_config.proofs.{ChangedLeaves.{leaf_named, entry, left, all_at, all_zip, listed_zip}, NamedOnce.outputs_tell, Reached.{groups, own}}

abbrev pub output_changes : Names → code.Configs → List (ℕ × ℕ)
output_changes wanted c = changed 0 (leaves c.store.pairs 6 c.names.outputs) (leaves c.store.pairs 6 wanted.outputs)

-- 1. Each change is to an output that is wanted.

module _ (wanted : Names) (c : code.Configs) (r : Reaches wanted c) where
  -- a change, and that its output is the wanted one
  abbrev IsWanted : ℕ × ℕ → Type 0
  IsWanted e = IsOutputName c.store (output_of r.state.core e.0) e.1

  output_entry : (j : ℕ) (e : ℕ × ℕ) → slice_get (output_changes wanted c) j ≡ Some e → (e.0 < length c.core.outputs) × IsOutputChange c.store c.core c.names.outputs e × IsWanted e
  unfolding output_of
  output_entry j e got =
      let a = r.at.machine.core in
      let own_names = r.stands.named.names.outputs in
      let many = groups wanted c r in
      let h = entry (IsOutputName c.store) [] a.outputs r.state.core.outputs c.store.pairs 6 c.names.outputs wanted.outputs own_names r.names.outputs many j e got in
      let inside = h.0 in
      let low : e.0 < length a.outputs = omega (arith, inside, many) in
      let all = (own wanted c r).formed.outputs in
      let core = r.stands.machine.core in (
        subst (λ (k : Core). e.0 < length k.outputs) (sym core) low,
        record {
          small = omega (arith, low, all);
          was = subst (λ (k : Core). IsOutputName c.store (output_of k e.0) (leaf_at c.store.pairs 6 c.names.outputs e.0)) (sym core)
              (leaf_named (IsOutputName c.store) [] a.outputs c.store.pairs 6 c.names.outputs own_names e.0 low);
          bytes = output_of r.state.core e.0;
          named = h.1;
          all = each_get (λ output. AllByRecursion (λ byte. byte < 256) output) r.state.core.outputs e.0 [] r.config.state.bytes h.0;
        },
        h.1,
      )

  pub output_changed : AllByRecursion (IsOutputChange c.store c.core c.names.outputs) (output_changes wanted c)
  output_changed = all_at (IsOutputChange c.store c.core c.names.outputs) (output_changes wanted c) (λ j e got. (output_entry j e got).1)

  output_left : (g : ℕ) → g < length r.state.core.outputs
      → ((j : ℕ) × (slice_get (output_changes wanted c) j ≡ Some (g, leaf_at c.store.pairs 6 wanted.outputs g))) ⊎ (output_of r.at.machine.core g ≡ output_of r.state.core g)
  unfolding output_of
  output_left g lt =
      let a = r.at.machine.core.outputs in
      let s = r.state.core.outputs in
      let Is = IsOutputName c.store in
      let own_names = r.stands.named.names.outputs in
      let many = groups wanted c r in
      let low : g < length a = omega (arith, lt, many) in
      elim (left Is [] a s c.store.pairs 6 c.names.outputs wanted.outputs own_names r.names.outputs many g lt) [
        | inl h ↦ inl h
        | inr same ↦
            let one = leaf_named Is [] a c.store.pairs 6 c.names.outputs own_names g low in
            let two = leaf_named Is [] s c.store.pairs 6 wanted.outputs r.names.outputs g lt in
            inr (outputs_tell c.store (slice_index_or a g []) (slice_index_or s g []) (leaf_at c.store.pairs 6 wanted.outputs g) (subst (Is (slice_index_or a g [])) same one) two)
      ]

  -- 2. All outputs.

  pub outputs_are_read : (now : code.Configs) → AllZip (IsOutputRead c.store c.core) (output_changes wanted c) (outputs_in now.revision) → now.revision.queues ≡ c.revision.queues
      → now.slots ≡ c.slots → KeepsAll c now → HasReadOutputs r.state.core c now
  outputs_are_read now are queues room others =
      let core = r.stands.machine.core in
      let many = groups wanted c r in
      let same = ap (λ (k : Core). length k.outputs) core in
      record {
        outputs = all_zip (λ (x : Extension). x.group) (IsOutputRead c.store c.core) (λ e. (e.0 < length c.core.outputs) × IsWanted e) (Extends c.core r.state.core)
            (λ e x h is. record {
              inside = subst (λ g. g < length c.core.outputs) (sym is.group) h.0;
              kept = subst (λ g. x.kept ≤ length (output_of c.core g)) (sym is.group) is.kept;
              is = subst (λ g. take x.kept (output_of c.core g) ++ x.bytes ≡ output_of r.state.core g) (sym is.group) (is.is (output_of r.state.core e.0) h.1);
            })
            (output_changes wanted c) (outputs_in now.revision)
            (all_at (λ (e : ℕ × ℕ). (e.0 < length c.core.outputs) × IsWanted e) (output_changes wanted c) (λ j e got. let h = output_entry j e got in (h.0, h.2))) are;
        rest = λ g lt. elim (output_left g (omega (arith, lt, same, many))) [
          | inl h ↦ inl (listed_zip (λ (x : Extension). x.group) (IsOutputRead c.store c.core) (λ e x is. is.group) (output_changes wanted c) (outputs_in now.revision) are h.0
              (g, leaf_at c.store.pairs 6 wanted.outputs g) h.1)
          | inr is ↦ inr (ap (λ (k : Core). output_of k g) core ∙ is)
        ];
        queues = queues;
        room = room;
        others = others;
      }
