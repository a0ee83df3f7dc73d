use Rattle.std.proofs.Common.{◌≡◌, true, false, [], subst}
use Rattle.std.proofs.lemmas.Result.{on_ok_weaker}
use Rattle.mm_keep.specs.Claims.{AddsFacts}
use Rattle.mm_keep.proofs.{Claims.facts_none, Loops.facts_at}
use Rattle.mm_kernel.specs.declared.thread.Thread.{Thread}
use Rattle.mm_kernel.specs.{Facts.take_up, Turns.with_event}
use Rattle.mm_keep.specs.Searching.{comes_from}
use Rattle.mm_keep.proofs.again.take_event.Goals as goal

pub returns-then-comes_from : goal.returns-then-comes_from
returns-then-comes_from c =
    let to = c.take_up.new.self in
    let test : (comes_from c.args.origin.now c.args.event.now.0) ≡ true = cc in
    let same : c.with_words.result ≡ (with_event c.args.next.now c.args.reg c.args.event.now.1.ip c.args.event.now.1.address c.args.event.now.1.value) = cc in
    on_ok_weaker c.take_up.result (λ h. facts_at c.args.kernel.now.image c.args.kernel.now.kept (comes_from c.args.origin.now c.args.event.now.0) true (take_up c.args.kernel.now.image c.args.kernel.now.kept (with_event c.args.next.now c.args.reg c.args.event.now.1.ip c.args.event.now.1.address c.args.event.now.1.value)) [] c.args.tables.now to test (subst (λ (t : Thread). AddsFacts c.args.kernel.now.image c.args.kernel.now.kept (take_up c.args.kernel.now.image c.args.kernel.now.kept t) c.args.tables.now to) same h)) c.take_up.ensures

pub returns-else-comes_from : goal.returns-else-comes_from
returns-else-comes_from c =
    let test : (comes_from c.args.origin.now c.args.event.now.0) ≡ false = cc in
    facts_at c.args.kernel.now.image c.args.kernel.now.kept (comes_from c.args.origin.now c.args.event.now.0) false (take_up c.args.kernel.now.image c.args.kernel.now.kept (with_event c.args.next.now c.args.reg c.args.event.now.1.ip c.args.event.now.1.address c.args.event.now.1.value)) [] c.args.tables.now c.args.tables.now test (facts_none c.args.kernel.now.image c.args.kernel.now.kept c.args.tables.now)
