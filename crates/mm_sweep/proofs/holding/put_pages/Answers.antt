use Rattle.mm_sweep.specs.Holders.{page_holders}
use Rattle.mm_text.proofs.Appending.{appends_item}
use Rattle.mm_sweep.proofs.holding.put_pages.Goals as goal

pub loop-page-preserved : goal.loop-page-preserved
loop-page-preserved g c =
    appends_item (page_holders c.args.range.now) c.args.pages.now c.loop-page.page-index c.page-item.result c.loop-page-test.true c.page-item.is c.loop-page.invariant c.put_cells.ensures
