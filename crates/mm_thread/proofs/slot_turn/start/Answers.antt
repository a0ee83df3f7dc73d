use Rattle.std.proofs.Common.{◌≡◌, [], true, false, None, Ok, Err, is_err, sym, ap, ◌∙◌, refl, arith, pos}
use Rattle.mm_word.specs.declared.{cause.Cause.TheVariants.Bounds, perm.Kind.TheVariants.Fetch}
use Rattle.mm_word.specs.{declared.word.Word.TheVariants.Ptr, Access.check_result}
use Rattle.mm_model.specs.{Slot.Slot, Memory.Memory, Uses.takes_none}
use Rattle.mm_thread.specs.{SlotIndices.slot_in, Told.told_at}
use Rattle.mm_thread.proofs.Turns.{faults_give, starts_past, starts_unfetched, starts_fetched, comes_past}
use Rattle.mm_thread.proofs.Turns.{comes_unfetched, comes_fetched}
use Rattle.mm_thread.proofs.slot_turn.start.Goals as goal

pub returns-then-past : goal.returns-then-past
returns-then-past g c =
    let a = c.args in
    let t = a.tables.now in
    let m : Memory = g.M.Memory.meaning a.mem.now in
    let s = slot_in t a.slot_index in
    let past : s.past ≡ true = ap (λ (x : Slot). x.past) (sym (c.slot.view_is ∙ c.slot-slot.ensures)) ∙ c.if-past.true in
    rw (starts_past t m s past, comes_past t m s past)
    (faults_give g.M.Memory.meaning g.M.Memory.uses g.M.Memory.stands g.W.Watch.tells (g.W.Watch.looks a.watch.now (told_at t m s None)) t m s Bounds None [] a.mem.now a.mem.now c.fail_fetch.new.tables c.fail_fetch.new.watch
    c.fail_fetch.ensures.core refl c.fail_fetch.ensures.watch (takes_none a.mem.now) (omega arith))

pub fail_check-requires-clause-refused : goal.fail_check-requires-clause-refused
fail_check-requires-clause-refused g c =
    let same = c.slot.view_is ∙ c.slot-slot.ensures in
    ap is_err (ap (λ (x : Slot). check_result (Ptr x.ip) (pos 0) Fetch) (sym same) ∙ sym c.check.ensures.value ∙ c.in-Err.is)

pub returns-in-Err : goal.returns-in-Err
returns-in-Err g c =
    let a = c.args in
    let t = a.tables.now in
    let m : Memory = g.M.Memory.meaning a.mem.now in
    let s = slot_in t a.slot_index in
    let same = c.slot.view_is ∙ c.slot-slot.ensures in
    let cause = c.in-Err.field-0 in
    let past : s.past ≡ false = ap (λ (x : Slot). x.past) (sym same) ∙ c.if-past.false in
    let checked : check_result (Ptr s.ip) (pos 0) Fetch ≡ Err cause = ap (λ (x : Slot). check_result (Ptr x.ip) (pos 0) Fetch) (sym same) ∙ sym c.check.ensures.value ∙ c.in-Err.is in
    rw (starts_unfetched t m s cause past checked, comes_unfetched t m s cause past checked)
    (faults_give g.M.Memory.meaning g.M.Memory.uses g.M.Memory.stands g.W.Watch.tells (g.W.Watch.looks a.watch.now (told_at t m s None)) t m s cause
    None [] a.mem.now a.mem.now c.fail_check.new.tables c.fail_check.new.watch
    (c.fail_check.ensures.core cause checked) refl (c.fail_check.ensures.watch cause checked) (takes_none a.mem.now) (omega arith))

pub fetch-requires-clause-passed : goal.fetch-requires-clause-passed
fetch-requires-clause-passed g c = ap (λ (x : Slot). check_result (Ptr x.ip) (pos 0) Fetch) (sym (c.slot.view_is ∙ c.slot-slot.ensures)) ∙ sym c.in-Ok.ensures.value

pub returns-in-Ok : goal.returns-in-Ok
returns-in-Ok g c =
    let a = c.args in
    let t = a.tables.now in
    let m : Memory = g.M.Memory.meaning a.mem.now in
    let s = slot_in t a.slot_index in
    let same = c.slot.view_is ∙ c.slot-slot.ensures in
    let past : s.past ≡ false = ap (λ (x : Slot). x.past) (sym same) ∙ c.if-past.false in
    let checked : check_result (Ptr s.ip) (pos 0) Fetch ≡ Ok c.in-Ok.access = ap (λ (x : Slot). check_result (Ptr x.ip) (pos 0) Fetch) (sym same) ∙ sym c.in-Ok.ensures.value in
    rw (starts_fetched t m s c.in-Ok.access past checked, comes_fetched t m s c.in-Ok.access past checked) c.fetch.ensures
