use Rattle.mm_model.specs.{Image.start, Reach.Entries.These, Run.{turn_of, run}, Trace.{touches, group_in, entries}}
use Rattle.mm_sweep.{specs.Swept.swept, proofs.{SweptGrants.touches_free, SweptImages.swept_is_image}}
use Rattle.mm_sweep.proofs.laws.swept_silent.Goals as goal

pub returns : goal.returns
returns c range i before n segment image can =
    let granted = c.grants_hold.ensures (swept range i) before (swept_is_image range i image) in
    touches_free c.grants_grow.ensures.most range i can (These (entries (start (swept range i)) before)) (group_in (turn_of (run (start (swept range i)) before) n))
    (touches (turn_of (run (start (swept range i)) before) n).step) (granted.next n).touched
