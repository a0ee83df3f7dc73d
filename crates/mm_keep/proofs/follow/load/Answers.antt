use Rattle.std.proofs.Common.{◌≡◌, true, false, [], subst}
use Rattle.std.proofs.lemmas.Result.{on_ok_weaker}
use Rattle.mm_keep.specs.Claims.{AddsFacts}
use Rattle.mm_keep.proofs.{Claims.facts_none, Loops.facts_at}
use Rattle.mm_kernel.specs.declared.thread.Thread.{Thread}
use Rattle.mm_kernel.specs.{Segments.lies_in, Facts.take_up, Threads.with_form}
use Rattle.mm_keep.proofs.follow.load.Goals as goal

pub returns-then-lies_in : goal.returns-then-lies_in
returns-then-lies_in c =
    let to = c.take_up.new.self in
    let test : (lies_in c.args.held.0 c.args.part) ≡ true = cc in
    let same : c.with_form.result ≡ (with_form c.args.next.now c.args.reg c.args.held.1) = cc in
    on_ok_weaker c.take_up.result (λ h. facts_at c.args.kernel.now.image c.args.kernel.now.kept (lies_in c.args.held.0 c.args.part) true (take_up c.args.kernel.now.image c.args.kernel.now.kept (with_form c.args.next.now c.args.reg c.args.held.1)) [] c.args.tables.now to test (subst (λ (t : Thread). AddsFacts c.args.kernel.now.image c.args.kernel.now.kept (take_up c.args.kernel.now.image c.args.kernel.now.kept t) c.args.tables.now to) same h)) c.take_up.ensures

pub returns-else-lies_in : goal.returns-else-lies_in
returns-else-lies_in c =
    let test : (lies_in c.args.held.0 c.args.part) ≡ false = cc in
    facts_at c.args.kernel.now.image c.args.kernel.now.kept (lies_in c.args.held.0 c.args.part) false (take_up c.args.kernel.now.image c.args.kernel.now.kept (with_form c.args.next.now c.args.reg c.args.held.1)) [] c.args.tables.now c.args.tables.now test (facts_none c.args.kernel.now.image c.args.kernel.now.kept c.args.tables.now)
