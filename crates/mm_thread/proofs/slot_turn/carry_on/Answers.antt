use Rattle.std.proofs.Common.{ℕ, Bool, ◌&&◌, Some, is_some, ap, ◌∙◌}
use Rattle.mm_model.specs.{Slot.Slot, Memory.Memory, Operands.lacks}
use Rattle.mm_thread.specs.{SlotIndices.slot_in, Execution.step_ended, Told.told_at}
use Rattle.mm_thread.proofs.Turns.{can_end, issued_gives}
use Rattle.mm_thread.proofs.slot_turn.carry_on.Goals as goal

pub end-requires-clause-spelled : goal.end-requires-clause-spelled
end-requires-clause-spelled g c = ap is_some c.requires.spelled

pub end-requires-clause-can : goal.end-requires-clause-can
end-requires-clause-can g c =
    let a = c.args in
    can_end a.tables.now a.slot_index c.requires.can (g.M.Memory.meaning a.mem.now) _ c.execute-retired.new.tables
    (g.M.Memory.meaning c.execute-retired.new.mem) c.execute-retired.result.completion c.execute-retired.ensures.leaves

pub returns : goal.returns
returns g c = λ before u first same counted.
    let a = c.args in
    let number = ap (λ (x : Slot). x.number) (c.behind-tables.view_is ∙ c.slot.ensures) in
    let tells = g.W.Watch.tells in
    let told = λ (m : Memory). g.W.Watch.looks a.watch.now (told_at a.tables.now m (slot_in a.tables.now a.slot_index) (Some a.instr)) in
    let seen = c.look.ensures ∙ ap told same in
    let step = λ (n : ℕ). step_ended n (slot_in c.execute-retired.new.tables a.slot_index) (Some a.access) c.execute-retired.result.touched c.execute-retired.result.completion in
    issued_gives g.M.Memory.meaning g.M.Memory.uses g.M.Memory.stands tells (told (g.M.Memory.meaning before)) a.tables.now a.slot_index c.requires.can a.access u a.instr before a.mem.now first same counted
    (ap (λ (b : Bool). b && lacks a.instr (slot_in a.tables.now a.slot_index)) c.requires.whole) c.execute-retired.new.mem c.execute-retired.new.tables c.end.new.tables c.execute-retired.result c.end.new.watch
    c.execute-retired.ensures (c.end.ensures.core a.instr c.requires.spelled)
    (c.end.ensures.watch ∙ ap (λ v. tells v (step c.behind-tables.inside.number)) seen ∙ ap (λ (n : ℕ). tells (told (g.M.Memory.meaning before)) (step n)) number)
