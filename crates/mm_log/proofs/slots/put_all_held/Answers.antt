use Rattle.mm_text.proofs.Appending.{appends_item}
use Rattle.mm_log.specs.{Seen.held_left, Log.text_of}
use Rattle.mm_log.proofs.slots.put_all_held.Goals as goal

pub loop-one-preserved : goal.loop-one-preserved
loop-one-preserved g c =
    appends_item (λ h. text_of (held_left c.args.now.now h)) c.args.held.now c.loop-one.one-index c.one-item.result c.loop-one-test.true c.one-item.is c.loop-one.invariant c.put_held.ensures
