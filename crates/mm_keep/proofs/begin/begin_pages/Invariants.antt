use Rattle.std.proofs.Common.{◌≡◌, ◌++◌, take}
use Rattle.std.specs.List.{flat_map}
use Rattle.mm_keep.specs.Claims.{AddsFacts}
use Rattle.mm_keep.specs.Searching.{page_first, page_handed}
use Rattle.mm_keep.proofs.begin.begin_pages.Given as goal

abbrev pub invariant-loop-page : goal.invariant-loop-page
invariant-loop-page l = record {
  facts : AddsFacts l.kernel.image l.kernel.kept (flat_map (page_handed l.kernel.image l.kernel.kept) (take l.page-index l.pages)) l.initial.tables l.tables;
  first : l.first.items ≡ l.initial.first.items ++ flat_map (page_first l.kernel.image l.kernel.kept) (take l.page-index l.pages);
}
