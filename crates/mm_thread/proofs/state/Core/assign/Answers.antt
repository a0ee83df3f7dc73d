use Rattle.std.{proofs.Common.{◌≤◌, List, [], map, replicate, sym, ap, subst, ◌∙◌}, specs.List.AllByRecursion}
use Rattle.mm_model.proofs.CoreRows.{numbers_by}
use Rattle.mm_model.specs.{Slot.Slot, State.Core, Spelling.numbers_of, Fits.{slots_of, IsCore}}
use Rattle.mm_thread.specs.SlotIndices.{row_alone, numbers_in}
use Rattle.mm_thread.specs.Parts.{events_for, row_with, outputs_with, core_of, AreParts}
use Rattle.mm_thread.proofs.{Assigned.{slots-alone, parts_room, parts_short}, Index.apart_by, RowIndex.apart_in}
use Rattle.mm_thread.proofs.state.Core.assign.Goals as goal

pub put_slots-requires-clause-numbers : goal.put_slots-requires-clause-numbers
put_slots-requires-clause-numbers c =
    let t = c.self.inside.tables in
    let parts : AreParts t c.args.slots.now c.args.events.now c.args.outputs.now = rw (← c.self.view_is) at c.requires in
    numbers_by c.args.slots.now (slots_of t) parts.same

pub put_events-requires-clause-apart : goal.put_events-requires-clause-apart
put_events-requires-clause-apart c =
    let t = c.self.inside.tables in
    let parts : AreParts t c.args.slots.now c.args.events.now c.args.outputs.now = rw (← c.self.view_is) at c.requires in
    apart_by t c.put_slots.new.tables (ap numbers_in c.put_slots.ensures ∙ ap numbers_of (slots-alone c.args.slots.now)
    ∙ numbers_by c.args.slots.now (slots_of t) parts.same) (apart_in t c.self.invariant)

pub put_events-requires-clause-empty : goal.put_events-requires-clause-empty
put_events-requires-clause-empty c =
    let same = ap slots_of c.put_slots.ensures ∙ slots-alone c.args.slots.now in
    ap (λ (k : Core). k.rows) c.put_slots.ensures ∙ ap (map row_alone) (sym same)

pub put_events-requires-clause-room : goal.put_events-requires-clause-room
put_events-requires-clause-room c =
    let t = c.self.inside.tables in
    let parts : AreParts t c.args.slots.now c.args.events.now c.args.outputs.now = rw (← c.self.view_is) at c.requires in
    subst (AllByRecursion (λ (s : Slot). Rattle.std.proofs.Common.length (events_for s.number c.args.events.now) ≤ 64))
    (sym (ap slots_of c.put_slots.ensures ∙ slots-alone c.args.slots.now))
    (parts_room t.version t.split c.args.slots.now c.args.events.now c.args.outputs.now parts.whole)

pub put_outputs-requires-clause-short : goal.put_outputs-requires-clause-short
put_outputs-requires-clause-short c =
    let t = c.self.inside.tables in
    let parts : AreParts t c.args.slots.now c.args.events.now c.args.outputs.now = rw (← c.self.view_is) at c.requires in
    parts_short t.version t.split c.args.slots.now c.args.events.now c.args.outputs.now parts.whole parts.given

pub invariant_of-self : goal.invariant_of-self
invariant_of-self c =
    let t = c.self.inside.tables in
    let parts : AreParts t c.args.slots.now c.args.events.now c.args.outputs.now = rw (← c.self.view_is) at c.requires in
    let is = c.put_outputs.ensures
    ∙ ap (λ (k : Core). record k { outputs = outputs_with c.args.outputs.now (replicate 64 []) })
    (c.put_events.ensures ∙ ap (λ (k : Core). record k { rows = map (row_with c.args.events.now) (slots_of k) })
    c.put_slots.ensures ∙ ap (λ (ss : List Slot). record t { rows = map (row_with c.args.events.now) ss })
    (slots-alone c.args.slots.now)) in
    subst IsCore (sym is) parts.whole

pub returns : goal.returns
returns c =
    let t = c.self.inside.tables in
    let is = c.put_outputs.ensures
    ∙ ap (λ (k : Core). record k { outputs = outputs_with c.args.outputs.now (replicate 64 []) })
    (c.put_events.ensures ∙ ap (λ (k : Core). record k { rows = map (row_with c.args.events.now) (slots_of k) })
    c.put_slots.ensures ∙ ap (λ (ss : List Slot). record t { rows = map (row_with c.args.events.now) ss })
    (slots-alone c.args.slots.now)) in
    is ∙ ap (λ (k : Core). core_of k.version k.split c.args.slots.now c.args.events.now c.args.outputs.now) c.self.view_is
