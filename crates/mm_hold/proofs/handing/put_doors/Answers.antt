use Rattle.mm_hold.specs.Deeds.{door_in}
use Rattle.mm_hold.proofs.Listing.{put_next}
use Rattle.mm_hold.proofs.handing.put_doors.Goals as goal

pub loop-form-preserved : goal.loop-form-preserved
loop-form-preserved c =
    let l = c.loop-form in
    put_next (door_in c.args.kept.now c.args.origin.now) c.args.deeds.now.items c.args.forms.now l.form-index l.deeds.items c.put_door_in.new.deeds.items c.form-item.result
    c.loop-form-test.true c.form-item.is l.invariant c.in_ok-put_door_in.ensures
