use Rattle.mm_text.proofs.Appending.{appends_then, appends_same, buffered_writes}
use Rattle.mm_sweep.proofs.HolderLines.{same_holders}
use Rattle.mm_sweep.proofs.holding.holders.Goals as goal

pub returns : goal.returns
returns g c =
    buffered_writes c.new-text.ensures
    (appends_same (appends_then c.put_slots.ensures c.put_pages.ensures) (same_holders c.new-range.ensures c.slots.ensures.slots c.pages.ensures.pages))
    c.finish.ensures
