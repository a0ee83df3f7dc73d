use Rattle.mm_model.specs.Lines.{pending_line}
use Rattle.mm_text.proofs.Appending.{appends_item}
use Rattle.mm_text.proofs.slots.put_pending.Goals as goal

pub loop-load-preserved : goal.loop-load-preserved
loop-load-preserved g c =
    appends_item pending_line c.args.pending.now c.loop-load.load-index c.load-item.result c.loop-load-test.true c.load-item.is c.loop-load.invariant c.put_load.ensures
