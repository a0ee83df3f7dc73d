use Rattle.mm_hold.specs.Finding.{cell_first}
use Rattle.mm_hold.proofs.CellLists.{cells_put}
use Rattle.std.proofs.Common.{◌*◌}
use Rattle.mm_hold.proofs.found.add_firsts.Goals as goal

pub loop-k-preserved : goal.loop-k-preserved
loop-k-preserved c =
    let l = c.loop-k in
    cells_put (cell_first c.args.kernel.now.image c.args.kernel.now.kept) (c.args.page.now.0 * 4096) l.k c.cells-cells.result.now c.index-cells-k.result
    c.args.first.now.items l.first.items c.add_first.new.first.items c.loop-k-test.true c.index-cells-k.is l.invariant (rw c.number-base.ensures.number at c.in_ok-add_first.ensures)
