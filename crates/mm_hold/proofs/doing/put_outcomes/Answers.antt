use Rattle.mm_hold.specs.Deeds.{done_by}
use Rattle.mm_hold.proofs.Listing.{put_next}
use Rattle.mm_hold.proofs.doing.put_outcomes.Goals as goal

pub loop-outcome-preserved : goal.loop-outcome-preserved
loop-outcome-preserved c =
    let l = c.loop-outcome in
    put_next (done_by c.args.kernel.now.kept c.args.findings.now c.args.origin.now) c.args.deeds.now.items c.args.all.now l.outcome-index l.deeds.items c.put_outcome.new.deeds.items c.outcome-item.result
    c.loop-outcome-test.true c.outcome-item.is l.invariant c.in_ok-put_outcome.ensures
