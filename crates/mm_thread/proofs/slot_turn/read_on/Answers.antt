use Rattle.std.proofs.Common.{◌≡◌, [], ◌∷◌, true, Some, None, sym, ap, subst, ◌∙◌}
use Rattle.mm_word.specs.{declared.cause.Cause.TheVariants.Illegal, Access.AccessValue}
use Rattle.mm_model.specs.{declared.step.Step.Step, Memory.Memory, Uses.Accessed, Turn.{instr_in, issued, tick_faulted}}
use Rattle.mm_thread.specs.{SlotIndices.slot_in, Execution.{TakesTurn, fetch_of}, Told.told_at}
use Rattle.mm_thread.proofs.Turns.{faults_give, same_access}
use Rattle.mm_thread.proofs.slot_turn.read_on.Goals as goal

pub returns-in-None : goal.returns-in-None
returns-in-None g c = λ before f cell passed takes same counted is.
    let a = c.args in
    let t = a.tables.now in
    let m : Memory = g.M.Memory.meaning before in
    let s = slot_in t a.slot_index in
    let tells = g.W.Watch.tells in
    let told = λ (k : Memory). g.W.Watch.looks a.watch.now (told_at t k s None) in
    let step : AccessValue → Step = λ x. record { tick = tick_faulted Illegal s.handler; slot = s.number; fetched = Some x; touched = None; entered = None } in
    let here : c.fetch_access-access.result ≡ f = same_access (fetch_of s) c.fetch_access-access.result f c.fetch_access-access.ensures passed in
    let none : instr_in cell.word ≡ None = ap instr_in is ∙ sym c.read.ensures.value ∙ c.in-None.is in
    rw none (faults_give g.M.Memory.meaning g.M.Memory.uses g.M.Memory.stands tells (told m) t m s Illegal (Some f)
    (Accessed f.kind f.addr true true ∷ []) before a.mem.now c.fail_fetch.new.tables c.fail_fetch.new.watch
    c.fail_fetch.ensures.core same
    (c.fail_fetch.ensures.watch ∙ ap (λ (k : Memory). tells (told k) (step c.fetch_access-access.result)) same ∙ ap (λ (x : AccessValue). tells (told m) (step x)) here)
    takes counted)

pub returns-in-Some : goal.returns-in-Some
returns-in-Some g c = λ before f cell passed takes same counted is.
    let a = c.args in
    let t = a.tables.now in
    let m : Memory = g.M.Memory.meaning before in
    let s = slot_in t a.slot_index in
    let here : c.fetch_access-access.result ≡ f = same_access (fetch_of s) c.fetch_access-access.result f c.fetch_access-access.ensures passed in
    let some : instr_in cell.word ≡ Some c.in-Some.instr = ap instr_in is ∙ sym c.read.ensures.value ∙ c.in-Some.is in
    rw some (subst (λ (x : AccessValue). TakesTurn g.M.Memory.meaning g.M.Memory.uses g.M.Memory.stands g.W.Watch.tells
    (g.W.Watch.looks a.watch.now (told_at t m s (Some c.in-Some.instr))) (issued t m s x (Accessed f.kind f.addr true true) c.in-Some.instr)
    before c.issue.new.mem c.issue.new.tables c.issue.new.watch) here
    (c.issue.ensures before (Accessed f.kind f.addr true true) takes same counted))
