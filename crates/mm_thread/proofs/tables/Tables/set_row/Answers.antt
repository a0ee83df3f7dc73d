use Rattle.std.proofs.Common.{◌<◌, length, sym, ap, ◌∙◌, arith}
use Rattle.mm_model.specs.{Slot.Slot, State.Core}
use Rattle.mm_thread.{specs.SlotIndices.slot_in, proofs.RunningSlots.known_set}
use Rattle.mm_thread.proofs.tables.Tables.set_row.Goals as goal

pub invariant_of-self : goal.invariant_of-self
invariant_of-self c =
    let rows = c.self.inside.rows.items in
    let within : c.args.slot_index < length rows = omega (arith, ap (λ (k : Core). length k.rows) c.self.view_is) in
    let number = ap (λ (s : Slot). s.number) c.copy-row-inside.ensures ∙ c.requires.number ∙ ap (λ (k : Core). (slot_in k c.args.slot_index).number) (sym c.self.view_is) in
    known_set rows c.args.slot_index within _ number _ _ _ c.self.invariant c.noted-self-inside.ensures
