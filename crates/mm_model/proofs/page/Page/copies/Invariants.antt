use Rattle.std.proofs.Common.{◌≡◌, take}
use Rattle.mm_model.proofs.page.Page.copies.Given as goal

-- the pages so far
abbrev pub invariant-loop-page : goal.invariant-loop-page
invariant-loop-page l = l.copies.items ≡ take l.page-index l.pages
