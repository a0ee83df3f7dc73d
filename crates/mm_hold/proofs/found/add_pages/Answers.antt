use Rattle.mm_hold.specs.Finding.{page_with, cell_first}
use Rattle.mm_hold.proofs.Listing.{put_next}
use Rattle.mm_hold.proofs.found.add_pages.Goals as goal

pub loop-page-preserved : goal.loop-page-preserved
loop-page-preserved c =
    let l = c.loop-page in
    put_next (page_with (cell_first c.args.kernel.now.image c.args.kernel.now.kept)) c.args.first.now.items c.args.pages.now l.page-index l.first.items c.add_firsts.new.first.items
    c.page-item.result c.loop-page-test.true c.page-item.is l.invariant c.in_ok-add_firsts.ensures
