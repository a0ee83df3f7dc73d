use Rattle.std.{proofs.Common.{◌≡◌, take}, specs.List.All}
use Rattle.mm_graph.specs.Key.{IsKey}
use Rattle.mm_hold.specs.Finding.{pages_with, cell_found}
use Rattle.mm_hold.proofs.found.found_in.Given as goal

abbrev pub invariant-loop-page : goal.invariant-loop-page
invariant-loop-page l = (l.found.items ≡ pages_with (cell_found l.kept) (take l.page-index l.pages)) × All (λ f. IsKey f.key) l.found.items
