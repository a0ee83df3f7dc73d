use Rattle.std.proofs.Common.{◌≡◌, map, take}
use Rattle.mm_sweep.specs.Swept.{swept_page}
use Rattle.mm_sweep.proofs.words.swept_pages.Given as goal

abbrev pub invariant-loop-page : goal.invariant-loop-page
invariant-loop-page l = l.swept.items ≡ map (swept_page l.range) (take l.page-index l.pages)
