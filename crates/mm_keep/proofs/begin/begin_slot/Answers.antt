use Rattle.std.proofs.Common.{◌≡◌, true, [], subst}
use Rattle.std.proofs.lemmas.Result.{on_ok_weaker}
use Rattle.mm_keep.specs.Claims.{AddsFacts}
use Rattle.mm_keep.proofs.{Loops.facts_at}
use Rattle.mm_model.specs.Turn.{is_running}
use Rattle.mm_kernel.specs.declared.thread.Thread.{Thread}
use Rattle.mm_kernel.specs.{Facts.take_up, Threads.own_thread}
use Rattle.mm_keep.proofs.begin.begin_slot.Goals as goal

pub returns-clause-facts : goal.returns-clause-facts
returns-clause-facts c =
    let to = c.take_up.new.self in
    let on : is_running c.args.slot.now.state ≡ true = cc in
    let same : c.own_thread.result ≡ own_thread c.args.kernel.now.image c.args.kernel.now.kept c.args.slot.now = cc in
    on_ok_weaker c.take_up.result (λ h. facts_at c.args.kernel.now.image c.args.kernel.now.kept (is_running c.args.slot.now.state) true (take_up c.args.kernel.now.image c.args.kernel.now.kept (own_thread c.args.kernel.now.image c.args.kernel.now.kept c.args.slot.now)) [] c.args.tables.now to on
    (subst (λ (t : Thread). AddsFacts c.args.kernel.now.image c.args.kernel.now.kept (take_up c.args.kernel.now.image c.args.kernel.now.kept t) c.args.tables.now to) same h)) c.take_up.ensures
