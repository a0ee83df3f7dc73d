use Rattle.mm_text.proofs.Appending.{appends_item}
use Rattle.mm_log.specs.Lines.{line_text, Line.Issues}
use Rattle.mm_log.proofs.slots.put_loads.Goals as goal

pub loop-load-preserved : goal.loop-load-preserved
loop-load-preserved g c =
    appends_item (λ load. line_text (Issues c.args.slot load)) c.args.loads.now c.loop-load.load-index c.load-item.result c.loop-load-test.true c.load-item.is c.loop-load.invariant c.put_load.ensures
