use Rattle.std.proofs.Common.{◌≡◌, ◌+◌, ◌<◌, ◌≤◌, ℕ, List, length, map, sym, ap, subst, ◌∙◌, arith}
use Rattle.std.specs.List.{AllByRecursion}
use Rattle.mm_model.specs.{declared.event.Event.Event, Flags.flags, State.Core, Fits.{identity_of, slots_of, IsCore}}
use Rattle.mm_model.proofs.CoreRows.{each_map}
use Rattle.mm_thread.specs.Revisions.{with_slots, with_queues, with_outputs, queue_in_place, extension, Extension, queues_in, outputs_in, revised}
use Rattle.mm_thread.proofs.Revised.{slots_long, slots_many, queues-outputs}
use Rattle.mm_thread.proofs.state.Core.revise.Goals as goal

pub put_changed-requires-clause-same : goal.put_changed-requires-clause-same
put_changed-requires-clause-same c = c.requires.same ∙ ap (λ (k : Core). map identity_of (slots_of k)) (sym c.self.view_is)

pub put_queues-requires : goal.put_queues-requires
put_queues-requires c =
    let t = c.self.inside.tables in
    let slots = c.args.slots.now in
    let long : length c.put_changed.new.tables.rows ≡ length slots =
    ap (λ (k : Core). length k.rows) c.put_changed.ensures ∙ slots_long (flags (length slots) c.args.changed) slots t.rows
    ∙ sym (slots_many slots t (c.requires.same ∙ ap (λ (k : Core). map identity_of (slots_of k)) (sym c.self.view_is))) in
    subst (λ qs. AllByRecursion (λ (x : ℕ × List Event). (x.0 < length c.put_changed.new.tables.rows) × (length x.1 ≤ 64)) (map queue_in_place qs)) (sym c.deref.ensures.value)
    (each_map (λ (x : ℕ × List Event). (x.0 < length slots) × (length x.1 ≤ 64)) (λ (x : ℕ × List Event). (x.0 < length c.put_changed.new.tables.rows) × (length x.1 ≤ 64))
    (λ x h. (omega (arith, long, h.0), h.1)) (queues_in c.args.revision.now) c.requires.queues)

pub extend_outputs-requires-clause-groups : goal.extend_outputs-requires-clause-groups
extend_outputs-requires-clause-groups c =
    ap (λ (k : Core). length k.outputs) c.put_queues.ensures ∙ ap length (queues-outputs (map queue_in_place c.deref.result.now) c.put_changed.new.tables)
    ∙ ap (λ (k : Core). length k.outputs) c.put_changed.ensures ∙ c.self.invariant.formed.outputs

pub extend_outputs-requires-clause-short : goal.extend_outputs-requires-clause-short
extend_outputs-requires-clause-short c =
    subst (λ xs. AllByRecursion (λ (x : Extension). (x.group < 64) × (x.kept + length x.bytes ≤ 65536)) (map extension xs)) (sym c.deref-2.ensures.value) c.requires.outputs

revision : (c : goal.After-extend_outputs) → c.extend_outputs.new.tables
    ≡ revised c.args.self.now (flags (length c.args.slots.now) c.args.changed) c.args.slots.now (queues_in c.args.revision.now) (outputs_in c.args.revision.now)
unfolding revised
revision c =
    let slots = c.args.slots.now in
    let fs = flags (length slots) c.args.changed in
    let r = c.args.revision.now in
    c.extend_outputs.ensures ∙ ap (λ xs. with_outputs (map extension xs) c.put_queues.new.tables) c.deref-2.ensures.value
    ∙ ap (with_outputs (outputs_in r)) (c.put_queues.ensures ∙ ap (λ xs. with_queues (map queue_in_place xs) c.put_changed.new.tables) c.deref.ensures.value
    ∙ ap (with_queues (queues_in r)) (c.put_changed.ensures ∙ ap (λ (k : Core). record k { rows = with_slots fs slots k.rows }) c.self.view_is))

pub invariant_of-self : goal.invariant_of-self
invariant_of-self c = subst IsCore (sym (revision c)) c.requires.whole

pub returns : goal.returns
returns c = revision c
