use Rattle.std.proofs.Common.{◌≡◌, ℕ, Option, Some, None, refl, sym, ap, ◌∙◌}
use Rattle.mm_model.specs.{Slot.Slot, Turn.{core_faulted, event_of}}
use Rattle.mm_thread.specs.SlotIndices.{slot_in}
use Rattle.mm_thread.proofs.fault.fault.Goals as goal

pub returns-in-Some-clause-core : goal.returns-in-Some-clause-core
unfolding event_of
returns-in-Some-clause-core c =
    let a = c.args in
    let s = slot_in a.tables.now a.slot_index in
    let same = c.slot.view_is ∙ c.slot-slot.ensures in
    let handler : s.handler ≡ Some c.in-Some.handler = ap (λ (t : Slot). t.handler) (sym same) ∙ c.in-Some.is in
    c.wait_for.ensures
    ∙ ap (λ (t : Slot). core_faulted a.tables.now s (event_of t a.cause a.addr_op a.value_op) (Some c.in-Some.handler)) same
    ∙ ap (λ (o : Option ℕ). core_faulted a.tables.now s (event_of s a.cause a.addr_op a.value_op) o) (sym handler)

pub returns-in-None-clause-core : goal.returns-in-None-clause-core
unfolding event_of
returns-in-None-clause-core c =
    let a = c.args in
    let s = slot_in a.tables.now a.slot_index in
    let handler : s.handler ≡ None = ap (λ (t : Slot). t.handler) (sym (c.slot.view_is ∙ c.slot-slot.ensures)) ∙ c.in-None.is in
    c.end_alone.ensures.core (event_of s a.cause a.addr_op a.value_op) refl
    ∙ ap (λ (o : Option ℕ). core_faulted a.tables.now s (event_of s a.cause a.addr_op a.value_op) o) (sym handler)
