use Rattle.mm_asm.{specs.Faults.use_failures, proofs.LateFirsts.met_more}
use Rattle.mm_asm.proofs.checks.meet_targets.Goals as goal

pub loop-u-preserved : goal.loop-u-preserved
loop-u-preserved c =
    let l = c.loop-u in
    met_more (use_failures c.args.draft.now) c.args.first.now l.first c.meet_target.new.first c.args.uses.now l.u-index c.u-item.result c.loop-u-test.true c.u-item.is l.invariant c.meet_target.ensures
