use Rattle.std.proofs.Common.{sym, ap, ◌∙◌, subst}
use Rattle.std.proofs.lemmas.List.{get_or_default}
use Rattle.mm_kernel.specs.declared.thread.{Handler.Handler, Thread.Thread}
use Rattle.mm_kernel.specs.{Facts.take_up, Threads.thread_through}
use Rattle.mm_keep.specs.Claims.{AddsFacts}
use Rattle.mm_keep.proofs.{Claims.facts_none, Loops.{facts_more, facts_all}}
use Rattle.mm_keep.proofs.again.enter_at.Goals as goal

pub loop-handler-init : goal.loop-handler-init
loop-handler-init c =
    facts_none c.args.kernel.now.image c.args.kernel.now.kept c.args.tables.now

pub loop-handler-preserved : goal.loop-handler-preserved
loop-handler-preserved c =
    let l = c.loop-handler in
    let t = c.thread_through.result in
    let test = c.loop-handler-test.true in
    let handler = ap (λ (u : Thread). u.handler) c.thread_through.ensures in
    facts_more c.args.kernel.now.image c.args.kernel.now.kept (λ (handler : Handler). take_up c.args.kernel.now.image c.args.kernel.now.kept (thread_through c.args.door c.args.ip handler)) c.args.handlers.now l.handler-index t.handler c.args.tables.now l.tables c.take_up.new.self test
    (handler ∙ get_or_default c.args.handlers.now l.handler-index _ t.handler test) l.invariant
    (subst (λ (u : Thread). AddsFacts c.args.kernel.now.image c.args.kernel.now.kept (take_up c.args.kernel.now.image c.args.kernel.now.kept u) l.tables c.take_up.new.self)
    (c.thread_through.ensures ∙ ap (λ (h : Handler). thread_through c.args.door c.args.ip h) (sym handler)) c.in_ok-take_up.ensures)

pub returns : goal.returns
returns c =
    let l = c.loop-handler in
    facts_all c.args.kernel.now.image c.args.kernel.now.kept (λ (handler : Handler). take_up c.args.kernel.now.image c.args.kernel.now.kept (thread_through c.args.door c.args.ip handler)) c.args.handlers.now l.handler-index c.args.tables.now l.tables c.loop-handler-test.false l.invariant
