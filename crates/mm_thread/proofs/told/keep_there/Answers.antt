use Rattle.mm_model.specs.Ask.{ask}
use Rattle.mm_thread.proofs.{Index.queue_found, RowIndex.apart_in}
use Rattle.mm_thread.proofs.told.keep_there.Goals as goal

pub returns-in-Evt-clause-beside : goal.returns-in-Evt-clause-beside
unfolding ask
returns-in-Evt-clause-beside g c =
    let t = c.args.tables.now in
    let queue = queue_found t (apart_in t c.requires.whole) c.args.slot_index c.requires.within in
    let kept = rw c.in-Evt.is at c.event_there.ensures.beside in
    rw (c.in-Evt.is, queue) kept

pub returns-in-Evt-clause-other : goal.returns-in-Evt-clause-other
unfolding ask
returns-in-Evt-clause-other g c =
    let t = c.args.tables.now in
    let queue = queue_found t (apart_in t c.requires.whole) c.args.slot_index c.requires.within in
    let kept = rw c.in-Evt.is at c.event_there.ensures.other in
    rw (c.in-Evt.is, queue) kept
