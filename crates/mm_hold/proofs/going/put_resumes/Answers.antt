use Rattle.std.proofs.Common.{arith}
use Rattle.mm_hold.specs.Deeds.{went_on}
use Rattle.mm_hold.proofs.Listing.{put_more, put_all}
use Rattle.mm_hold.proofs.going.put_resumes.Goals as goal

pub loop-k-preserved : goal.loop-k-preserved
loop-k-preserved c =
    let l = c.loop-k in
    put_more (went_on c.args.kernel.now.kept c.args.origin.now c.args.how) c.args.deeds.now.items c.args.tables.now.faulted l.k l.deeds.items c.put_went_on.new.deeds.items c.faulted_at-served.result c.faulted_at-served.ensures l.invariant c.in_ok-put_went_on.ensures

pub returns : goal.returns
returns c =
    let l = c.loop-k in
    let test = c.loop-k-test.false in
    let end = c.faulted-k-end.ensures in
    put_all (went_on c.args.kernel.now.kept c.args.origin.now c.args.how) c.args.deeds.now.items c.args.tables.now.faulted l.k l.deeds.items (omega (arith, test, end)) l.invariant
