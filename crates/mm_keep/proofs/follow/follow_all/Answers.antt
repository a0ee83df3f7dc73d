use Rattle.mm_keep.proofs.Loops.{at_once_none, at_once_more, at_once_all}
use Rattle.mm_keep.proofs.follow.follow_all.Goals as goal

pub loop-outcome-init : goal.loop-outcome-init
loop-outcome-init c =
    at_once_none c.args.kernel.now.image c.args.kernel.now.kept c.args.first.now c.args.t.now c.args.tables.now

pub loop-outcome-preserved : goal.loop-outcome-preserved
loop-outcome-preserved c =
    let l = c.loop-outcome in
    at_once_more c.args.kernel.now.image c.args.kernel.now.kept c.args.first.now c.args.t.now c.args.outcomes.now l.outcome-index c.outcome-item.result
    c.args.tables.now l.tables c.follow.new.tables c.loop-outcome-test.true c.outcome-item.is l.invariant c.in_ok-follow.ensures

pub returns : goal.returns
returns c =
    let l = c.loop-outcome in
    at_once_all c.args.kernel.now.image c.args.kernel.now.kept c.args.first.now c.args.t.now c.args.outcomes.now l.outcome-index c.args.tables.now l.tables
    c.loop-outcome-test.false l.invariant
