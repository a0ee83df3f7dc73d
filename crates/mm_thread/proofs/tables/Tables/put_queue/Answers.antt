use Rattle.std.proofs.Common.{◌<◌, length, ap, ◌∙◌, arith}
use Rattle.mm_model.specs.{Slot.Slot, State.Core}
use Rattle.mm_thread.proofs.RunningSlots.{slot_there, known_kept}
use Rattle.mm_thread.proofs.tables.Tables.put_queue.Goals as goal

pub invariant_of-self : goal.invariant_of-self
invariant_of-self c =
    let rows = c.self.inside.rows.items in
    let within : c.args.at < length rows = omega (arith, ap (λ (k : Core). length k.rows) c.self.view_is) in
    let here = slot_there rows c.args.at within _ _ (c.row.view_is ∙ c.index_mut-row.ensures.value) in
    known_kept rows c.args.at within _ (ap (λ (s : Slot). s.number) here) _ _ c.self.invariant (ap (λ (s : Slot). s.state) here)
