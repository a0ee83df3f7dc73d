use Rattle.std.proofs.Common.{[], ◌∷◌, subst}
use Rattle.std.proofs.lemmas.Result.{on_ok_weaker}
use Rattle.mm_kernel.specs.{Facts.Fact.HasFaulted, Threads.with_form, declared.thread.Thread.Thread}
use Rattle.mm_keep.specs.Claims.{AddsFacts}
use Rattle.mm_keep.proofs.Loops.{facts_equal}
use Rattle.mm_keep.proofs.again.write_by.Goals as goal

pub returns-then-done-slot : goal.returns-then-done-slot
returns-then-done-slot c =
    let to = c.add_faulted.new.self in
    let d = c.args.done.now in
    let slot = c.args.slot in
    on_ok_weaker c.add_faulted.result (λ h i kept. facts_equal i kept d.0 slot (HasFaulted slot (with_form c.args.u.now d.1 d.2) ∷ []) c.args.tables.now to c.if-done-slot.true
    (subst (λ (t : Thread). AddsFacts i kept (HasFaulted slot t ∷ []) c.args.tables.now to) c.with_form.ensures (h i kept))) c.add_faulted.ensures
