use Rattle.std.proofs.Common.{◌<◌, length, ap, ◌∙◌, arith}
use Rattle.mm_model.specs.{Slot.Slot, State.Core}
use Rattle.mm_thread.proofs.RunningSlots.{slot_there, known_set}
use Rattle.mm_thread.proofs.tables.Tables.stand.Goals as goal

pub invariant_of-self : goal.invariant_of-self
invariant_of-self c =
    let rows = c.self.inside.rows.items in
    let within : c.args.slot_index < length rows = omega (arith, ap (λ (k : Core). length k.rows) c.self.view_is) in
    let here = slot_there rows c.args.slot_index within _ _ (c.row.view_is ∙ c.index_mut-row.ensures.value) in
    known_set rows c.args.slot_index within _ (ap (λ (s : Slot). s.number) c.stand.ensures ∙ ap (λ (s : Slot). s.number) here) _ _ _ c.self.invariant c.noted-self-inside.ensures
