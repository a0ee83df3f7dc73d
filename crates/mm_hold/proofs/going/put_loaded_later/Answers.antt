use Rattle.std.proofs.Common.{arith}
use Rattle.mm_hold.specs.Deeds.{loaded_with}
use Rattle.mm_hold.proofs.Listing.{put_more, put_all}
use Rattle.mm_hold.proofs.going.put_loaded_later.Goals as goal

pub loop-k-preserved : goal.loop-k-preserved
loop-k-preserved c =
    let l = c.loop-k in
    put_more (loaded_with c.args.kernel.now.kept c.args.part c.args.reg c.args.next.now) c.args.deeds.now.items c.args.tables.now.stored l.k l.deeds.items c.put_loaded_with.new.deeds.items c.stored_at-held.result c.stored_at-held.ensures l.invariant c.in_ok-put_loaded_with.ensures

pub returns : goal.returns
returns c =
    let l = c.loop-k in
    let test = c.loop-k-test.false in
    let end = c.stored-k-end.ensures in
    put_all (loaded_with c.args.kernel.now.kept c.args.part c.args.reg c.args.next.now) c.args.deeds.now.items c.args.tables.now.stored l.k l.deeds.items (omega (arith, test, end)) l.invariant
