use Rattle.std.{proofs.Common.{◌≡◌, ◌++◌, take}, specs.List.flat_map}
use Rattle.mm_kernel.specs.Segments.{page_pointers}
use Rattle.mm_keep.proofs.live.put_pages.Given as goal

abbrev pub invariant-loop-page : goal.invariant-loop-page
invariant-loop-page l = l.out.items ≡ l.initial.out.items ++ flat_map page_pointers (take l.page-index l.pages)
