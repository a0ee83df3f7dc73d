use Rattle.std.{proofs.Common.{◌≡◌, ◌*◌, ◌++◌, take}, specs.List.All}
use Rattle.mm_graph.specs.{Key.IsKey, Found.cell_keys}
use Rattle.mm_graph.proofs.found.add_page.Given as goal

abbrev pub invariant-loop-k : goal.invariant-loop-k
invariant-loop-k l = (l.found.items ≡ l.fn.found.items ++ cell_keys (l.fn.page.0 * 4096) (take l.k l.cells)) × All (λ f. IsKey f.key) l.found.items
