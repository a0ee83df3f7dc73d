use Rattle.std.proofs.Common.{ℕ, None, ap, ◌∙◌}
use Rattle.mm_model.specs.{Slot.Slot, declared.step.{Step.Step, Tick.Tick}, Turn.tick_faulted}
use Rattle.mm_thread.specs.SlotIndices.{slot_in}
use Rattle.mm_thread.proofs.slot_turn.fail_fetch.Goals as goal

pub returns-clause-watch : goal.returns-clause-watch
returns-clause-watch g c =
    let a = c.args in
    let s = slot_in a.tables.now a.slot_index in
    let tells = g.W.Watch.tells in
    let told : Tick → ℕ → Step = λ t n. record { tick = t; slot = n; fetched = a.fetched; touched = None; entered = None } in
    c.tell_step.ensures
    ∙ ap (λ (t : Tick). tells c.look.new.self (told t c.behind-tables.inside.number)) c.fault-tick.ensures.tick
    ∙ ap (λ (n : ℕ). tells c.look.new.self (told (tick_faulted a.cause s.handler) n)) (ap (λ (x : Slot). x.number) (c.behind-tables.view_is ∙ c.slot.ensures))
    ∙ ap (λ v. tells v (told (tick_faulted a.cause s.handler) s.number)) c.look.ensures
