use Rattle.std.proofs.Common.{◌≡◌, true, false, [], subst}
use Rattle.std.proofs.lemmas.Result.{on_ok_weaker}
use Rattle.mm_keep.specs.Claims.{AddsFacts}
use Rattle.mm_keep.proofs.{Claims.facts_none, Loops.facts_at}
use Rattle.mm_kernel.specs.declared.thread.Thread.{Thread}
use Rattle.mm_kernel.specs.{Facts.take_up, Threads.{form_in, with_form}}
use Rattle.mm_keep.specs.Searching.{comes_from}
use Rattle.mm_keep.proofs.again.read_one.Goals as goal

pub returns-then-comes_from : goal.returns-then-comes_from
returns-then-comes_from c =
    let to = c.take_up.new.self in
    let test : (comes_from c.args.origin.now c.args.served.now.0) ≡ true = cc in
    let same : c.with_form.result ≡ (with_form c.args.next.now c.args.reg (form_in c.args.served.now.1 c.args.from)) = cc in
    on_ok_weaker c.take_up.result (λ h. facts_at c.args.kernel.now.image c.args.kernel.now.kept (comes_from c.args.origin.now c.args.served.now.0) true (take_up c.args.kernel.now.image c.args.kernel.now.kept (with_form c.args.next.now c.args.reg (form_in c.args.served.now.1 c.args.from))) [] c.args.tables.now to test (subst (λ (t : Thread). AddsFacts c.args.kernel.now.image c.args.kernel.now.kept (take_up c.args.kernel.now.image c.args.kernel.now.kept t) c.args.tables.now to) same h)) c.take_up.ensures

pub returns-else-comes_from : goal.returns-else-comes_from
returns-else-comes_from c =
    let test : (comes_from c.args.origin.now c.args.served.now.0) ≡ false = cc in
    facts_at c.args.kernel.now.image c.args.kernel.now.kept (comes_from c.args.origin.now c.args.served.now.0) false (take_up c.args.kernel.now.image c.args.kernel.now.kept (with_form c.args.next.now c.args.reg (form_in c.args.served.now.1 c.args.from))) [] c.args.tables.now c.args.tables.now test (facts_none c.args.kernel.now.image c.args.kernel.now.kept c.args.tables.now)
