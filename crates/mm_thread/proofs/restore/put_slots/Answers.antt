use Rattle.std.proofs.Common.{List, ◌++◌, map, take, drop, set, sym, ap, ◌∙◌, arith}
use Rattle.std.{proofs.lemmas.List.{get_or-map, length-map, length-take-le}, specs.Prelude.{ℕ, slice_index}}
use Rattle.mm_model.specs.{Slot.Slot, State.{Core, ThreadRow}}
use Rattle.mm_thread.specs.SlotIndices.{no_row, row_alone, slot_in, with_row}
use Rattle.mm_thread.proofs.{Index.number-get, Assigned.{front_more, front_next}}
use Rattle.mm_thread.proofs.restore.put_slots.Goals as goal

pub set_row-requires-clause-number : goal.set_row-requires-clause-number
set_row-requires-clause-number c =
    let t = c.args.tables.now in
    let slots = c.args.slots.now in
    let i = c.loop-i.i in
    let x = c.index-slots-i.result in
    let front : List ThreadRow = map row_alone (take i slots) in
    ap (λ (s : Slot). s.number) c.index-slots-i.is
    ∙ sym (get_or-map (λ (s : Slot). s.number) slots i x 0 (omega arith))
    ∙ ap (λ (ns : List ℕ). slice_index ns i) c.requires.numbers
    ∙ number-get t i (omega arith)
    ∙ sym (ap (λ (r : ThreadRow). r.slot.number) (front_next front t.rows i no_row (length-map (take i slots) row_alone ∙ length-take-le i slots (omega arith)) (omega arith)))
    ∙ ap (λ (k : Core). (slot_in k i).number) (sym c.loop-i.invariant)

pub loop-i-preserved : goal.loop-i-preserved
loop-i-preserved c =
    let t = c.args.tables.now in
    let slots = c.args.slots.now in
    let i = c.loop-i.i in
    let x = c.index-slots-i.result in
    let rows : List ThreadRow = map row_alone (take i slots) ++ drop i t.rows in
    c.set_row.ensures ∙ ap (λ (k : Core). with_row k i (row_alone x)) c.loop-i.invariant
    ∙ ap (λ (y : Slot). record t { rows = set rows i (row_alone y) }) c.index-slots-i.is
    ∙ ap (λ (after : List ThreadRow). record t { rows = after }) (front_more row_alone slots t.rows i x no_row (omega arith) (omega arith))
