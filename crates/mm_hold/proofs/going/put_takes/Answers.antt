use Rattle.std.proofs.Common.{arith}
use Rattle.mm_hold.specs.Deeds.{took}
use Rattle.mm_hold.proofs.Listing.{put_more, put_all}
use Rattle.mm_hold.proofs.going.put_takes.Goals as goal

pub loop-k-preserved : goal.loop-k-preserved
loop-k-preserved c =
    let l = c.loop-k in
    put_more (took c.args.kernel.now.kept c.args.origin.now c.args.reg c.args.next.now) c.args.deeds.now.items c.args.tables.now.events l.k l.deeds.items c.put_took.new.deeds.items c.event_at-event.result c.event_at-event.ensures l.invariant c.in_ok-put_took.ensures

pub returns : goal.returns
returns c =
    let l = c.loop-k in
    let test = c.loop-k-test.false in
    let end = c.events-k-end.ensures in
    put_all (took c.args.kernel.now.kept c.args.origin.now c.args.reg c.args.next.now) c.args.deeds.now.items c.args.tables.now.events l.k l.deeds.items (omega (arith, test, end)) l.invariant
