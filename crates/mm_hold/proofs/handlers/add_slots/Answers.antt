use Rattle.std.specs.List.{flat_map}
use Rattle.mm_model.specs.Slot.{Slot}
use Rattle.mm_hold.specs.Handlers.{served_by_caller}
use Rattle.mm_hold.proofs.Listing.{put_next}
use Rattle.mm_hold.proofs.handlers.add_slots.Goals as goal

pub loop-s-preserved : goal.loop-s-preserved
loop-s-preserved c =
    let l = c.loop-s in
    let slots = c.args.slots.now in
    put_next (λ (s : Slot). flat_map (served_by_caller c.args.kernel.now.image c.args.kernel.now.kept s) slots) c.args.served.now.items slots l.s-index l.served.items c.add_slot.new.served.items
    c.s-item.result c.loop-s-test.true c.s-item.is l.invariant c.in_ok-add_slot.ensures
