use Rattle.std.proofs.Common.{◌≡◌, ◌*◌, ◌++◌, take}
use Rattle.mm_hold.specs.Finding.{cells_with, cell_first}
use Rattle.mm_hold.proofs.found.add_firsts.Given as goal

abbrev pub invariant-loop-k : goal.invariant-loop-k
invariant-loop-k l = l.first.items ≡ l.fn.first.items ++ cells_with (cell_first l.kernel.image l.kernel.kept) (l.fn.page.0 * 4096) (take l.k l.cells)
