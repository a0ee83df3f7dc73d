use Rattle.std.proofs.Common.{sym, ap, ◌∙◌}
use Rattle.mm_model.specs.Slot.{Slot}
use Rattle.mm_thread.proofs.RunningSlots.{set_noted, clear_noted}
use Rattle.mm_thread.proofs.run_mask.noted.Goals as goal

pub returns-then-is_running : goal.returns-then-is_running
returns-then-is_running c =
    set_noted c.args.runners c.slot.inside.number c.args.slot.now (ap (λ (x : Slot). x.number) c.slot.view_is) c.requires (sym c.is_running.ensures ∙ c.if-is_running.true)

pub returns-else-is_running : goal.returns-else-is_running
returns-else-is_running c =
    clear_noted c.args.runners c.slot.inside.number c.args.slot.now (ap (λ (x : Slot). x.number) c.slot.view_is) c.requires (sym c.is_running.ensures ∙ c.if-is_running.false)
