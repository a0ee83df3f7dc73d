use Rattle.std.proofs.Common.{◌*◌}
use Rattle.mm_hold.specs.Finding.{cell_found}
use Rattle.mm_hold.proofs.CellLists.{cells_put}
use Rattle.mm_hold.proofs.found.add_page.Goals as goal

pub loop-k-preserved : goal.loop-k-preserved
loop-k-preserved c =
    let e = c.in_ok-add_cell.ensures in
    let f = cell_found c.args.kept.now in
    let l = c.loop-k in (
      cells_put f (c.args.page.now.0 * 4096) l.k c.cells-cells.result.now c.index-cells-k.result c.args.found.now.items l.found.items c.add_cell.new.found.items
          c.loop-k-test.true c.index-cells-k.is l.invariant.0 (rw c.number-base.ensures.number at e.items),
      e.keys,
    )
