use Rattle.std.proofs.Common.{[]}
use Rattle.mm_hold.specs.Finding.{caller_seeds}
use Rattle.mm_hold.proofs.Listing.{put_next}
use Rattle.mm_hold.proofs.found.callers.Goals as goal

pub loop-slot-preserved : goal.loop-slot-preserved
loop-slot-preserved c =
    let l = c.loop-slot in
    let e = c.in_ok-add_slot.ensures in (
      put_next (caller_seeds c.args.kept.now) [] c.args.slots.now l.slot-index l.seeds.items c.add_slot.new.seeds.items
          c.slot-item.result c.loop-slot-test.true c.slot-item.is l.invariant.0 e.items,
      e.keys,
    )
