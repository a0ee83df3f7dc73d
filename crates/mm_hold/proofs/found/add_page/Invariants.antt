use Rattle.std.{proofs.Common.{◌≡◌, ◌*◌, ◌++◌, take}, specs.List.All}
use Rattle.mm_graph.specs.Key.{IsKey}
use Rattle.mm_hold.specs.Finding.{cells_with, cell_found}
use Rattle.mm_hold.proofs.found.add_page.Given as goal

abbrev pub invariant-loop-k : goal.invariant-loop-k
invariant-loop-k l = (l.found.items ≡ l.fn.found.items ++ cells_with (cell_found l.kept) (l.fn.page.0 * 4096) (take l.k l.cells)) × All (λ f. IsKey f.key) l.found.items
