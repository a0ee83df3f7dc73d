use Rattle.std.proofs.Common.{◌≡◌, ◌∙◌, inl, inr, sym, refl, arith, length}
use Rattle.mm_sched.proofs.Words.{run_between, all_none, all_more}
use Rattle.mm_sched.proofs.runs.run_end.Goals as goal

pub loop-at-init : goal.loop-at-init
loop-at-init c = all_none c.args.bytes.now c.args.from c.requires.begins

pub returns-then-not-is_in_run-clause-run : goal.returns-then-not-is_in_run-clause-run
returns-then-not-is_in_run-clause-run c =
    run_between c.args.bytes.now c.args.from c.loop-at.at (omega arith) (omega arith) c.loop-at.invariant (inr (
      c.loop-at-test.true,
      sym c.is_in_run.ensures ∙ c.if-not-is_in_run.true,
    ))

pub loop-at-preserved : goal.loop-at-preserved
loop-at-preserved c =
    all_more c.args.bytes.now c.args.from c.loop-at.at c.loop-at.invariant (sym c.is_in_run.ensures ∙ c.if-not-is_in_run.false)

pub returns-clause-run : goal.returns-clause-run
returns-clause-run c =
    let at_end : c.loop-at.at ≡ length c.args.bytes.now = omega arith in
    run_between c.args.bytes.now c.args.from (length c.args.bytes.now) (omega arith) (omega arith) (rw at_end at c.loop-at.invariant) (inl refl)
