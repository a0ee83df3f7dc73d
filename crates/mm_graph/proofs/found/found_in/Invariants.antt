use Rattle.std.{proofs.Common.{◌≡◌, take}, specs.List.All}
use Rattle.mm_graph.specs.{Key.IsKey, Found.page_keys}
use Rattle.mm_graph.proofs.found.found_in.Given as goal

abbrev pub invariant-loop-page : goal.invariant-loop-page
invariant-loop-page l = (l.found.items ≡ page_keys (take l.page-index l.pages)) × All (λ f. IsKey f.key) l.found.items
