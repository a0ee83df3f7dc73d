use Rattle.std.proofs.Common.{◌≡◌, ◌++◌, take}
use Rattle.std.specs.List.{flat_map}
use Rattle.mm_hold.specs.Finding.{page_with, cell_first}
use Rattle.mm_hold.proofs.found.add_pages.Given as goal

abbrev pub invariant-loop-page : goal.invariant-loop-page
invariant-loop-page l = l.first.items ≡ l.fn.first.items ++ flat_map (page_with (cell_first l.kernel.image l.kernel.kept)) (take l.page-index l.pages)
