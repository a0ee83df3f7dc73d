use Rattle.mm_model.specs.Fits.{slots_of}
use Rattle.mm_machine.proofs.Collecting.{take_got}
use Rattle.mm_machine.proofs.capture.slots_of.Goals as goal

pub loop-i-preserved : goal.loop-i-preserved
loop-i-preserved c =
    let more = take_got (slots_of c.args.core.now) c.loop-i.i c.nth.result.now c.nth.ensures in
    let pushed = c.in_ok-push.ensures.items in
    let copied = c.copy.ensures in
    let before = c.loop-i.invariant in
    cc
