use Rattle.std.proofs.Common.{[]}
use Rattle.mm_hold.specs.Finding.{page_with, cell_found}
use Rattle.mm_hold.proofs.Listing.{put_next}
use Rattle.mm_hold.proofs.found.found_in.Goals as goal

pub loop-page-preserved : goal.loop-page-preserved
loop-page-preserved c =
    let l = c.loop-page in
    let e = c.in_ok-add_page.ensures in (
      put_next (page_with (cell_found c.args.kept.now)) [] c.args.pages.now l.page-index l.found.items c.add_page.new.found.items
          c.page-item.result c.loop-page-test.true c.page-item.is l.invariant.0 e.items,
      e.keys,
    )
