use Rattle.std.proofs.Common.{◌≡◌, ◌++◌, sym, ◌∙◌, subst}
use Rattle.std.proofs.lemmas.Result.{on_ok_weaker}
use Rattle.mm_kernel.specs.declared.thread.Thread.{Thread}
use Rattle.mm_model.specs.Turn.{is_running}
use Rattle.mm_kernel.specs.Threads.{own_thread}
use Rattle.mm_hold.specs.Deeds.{taken}
use Rattle.mm_hold.proofs.Listing.{put_when}
use Rattle.mm_hold.proofs.going.put_slot.Goals as goal

pub returns-then-runs : goal.returns-then-runs
returns-then-runs c =
    let new = c.put_taken.new.deeds.items in
    let old = c.args.deeds.now.items in
    on_ok_weaker c.put_taken.result (λ h. put_when (is_running c.args.slot.now.state) new old (taken c.args.kernel.now.kept (own_thread c.args.kernel.now.image c.args.kernel.now.kept c.args.slot.now)) (sym c.runs.ensures ∙ c.if-runs.true) (subst (λ (u : Thread). new ≡ old ++ taken c.args.kernel.now.kept u) c.own_thread.ensures h)) c.put_taken.ensures
