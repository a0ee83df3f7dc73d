use Rattle.std.proofs.Common.{Ok, refl, sym, ap, ◌∙◌}
use Rattle.mm_model.specs.{Slot.Slot, Effect.plain, Turn.slot_after}
use Rattle.mm_word.specs.Pointer.{next_result}
use Rattle.mm_thread.proofs.local_ops.jump_and_link.Goals as goal

pub returns-in-Some-next : goal.returns-in-Some-next
unfolding plain slot_after
returns-in-Some-next c =
    let behind = ap (λ (s : Slot). next_result s.ip) (sym c.slot.view_is) ∙ sym c.next.ensures.value ∙ c.in-Some-next.is in
    rw (sym c.entered.ensures.pointer ∙ c.in-Some.is, behind) (record { alone = refl; slot = c.link.ensures; ended = ap Ok c.entry_of.ensures })
