use Rattle.std.proofs.{Common.{arith, List, subst}, lemmas.{Grind.common_steps, Result.err_from_is_err_and}}
use Rattle.std.specs.List.{flat_map}
use Rattle.mm_object.specs.declared.thread.Thread.{Thread}
use Rattle.mm_link.{specs.{Answers.Fails, Steps.{outside, thread_targets}}, proofs.Targets.failing_at}
use Rattle.mm_link.proofs.offsets.check_threads.Goals as goal

pub returns-in_err-check_thread : goal.returns-in_err-check_thread
returns-in_err-check_thread c =
    let l = c.loop-thread in
    let p = err_from_is_err_and c.from_residual.result c.from_residual.ensures.1 in
    let e = c.in_err-check_thread.field-0.0 in
    rw (p.1, p.2) (subst (λ (ts : List Thread). Fails (outside c.args.sites.now c.args.object.now (flat_map thread_targets ts)) e) c.threads-thread-items.ensures.threads
    (failing_at c.args.sites.now c.args.object.now thread_targets c.threads-thread-items.result.now l.thread-index l.invariant _ e c.loop-thread-test.true
    c.in_err-check_thread.ensures))

pub loop-thread-preserved : goal.loop-thread-preserved
loop-thread-preserved c = grind (arith, common_steps)
