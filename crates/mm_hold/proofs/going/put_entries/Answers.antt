use Rattle.mm_hold.specs.Deeds.{entry_deeds}
use Rattle.mm_hold.proofs.Listing.{put_next}
use Rattle.mm_hold.proofs.going.put_entries.Goals as goal

pub loop-slot-preserved : goal.loop-slot-preserved
loop-slot-preserved c =
    let l = c.loop-slot in
    put_next (entry_deeds c.args.kernel.now.image c.args.kernel.now.kept c.args.door c.args.ip) c.args.deeds.now.items c.args.slots.now l.slot-index l.deeds.items c.put_entry.new.deeds.items c.slot-item.result
    c.loop-slot-test.true c.slot-item.is l.invariant c.in_ok-put_entry.ensures
