use Rattle.mm_hold.specs.Handlers.{served_by_caller}
use Rattle.mm_hold.proofs.Listing.{put_next}
use Rattle.mm_hold.proofs.handlers.add_slot.Goals as goal

pub loop-t-preserved : goal.loop-t-preserved
loop-t-preserved c =
    let l = c.loop-t in
    put_next (served_by_caller c.args.kernel.now.image c.args.kernel.now.kept c.args.s.now) c.args.served.now.items c.args.slots.now l.t-index l.served.items c.add_server.new.served.items
    c.t-item.result c.loop-t-test.true c.t-item.is l.invariant c.in_ok-add_server.ensures
