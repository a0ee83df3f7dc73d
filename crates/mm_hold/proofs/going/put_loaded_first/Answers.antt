use Rattle.mm_hold.specs.Deeds.{loaded_with}
use Rattle.mm_hold.proofs.Listing.{put_next}
use Rattle.mm_hold.proofs.going.put_loaded_first.Goals as goal

pub loop-held-preserved : goal.loop-held-preserved
loop-held-preserved c =
    let l = c.loop-held in
    put_next (loaded_with c.args.kernel.now.kept c.args.part c.args.reg c.args.next.now) c.args.deeds.now.items c.args.first.now l.held-index l.deeds.items c.put_loaded_with.new.deeds.items c.held-item.result
    c.loop-held-test.true c.held-item.is l.invariant c.in_ok-put_loaded_with.ensures
