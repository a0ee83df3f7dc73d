use Rattle.std.{proofs.Common.take, specs.List.AllByRecursion}
use Rattle.mm_model.specs.{Memory.IsPage, Spelling.HoldsWords}
use Rattle.mm_model.proofs.page.Page.typed.Given as goal

-- of the pages so far
abbrev pub invariant-loop-page : goal.invariant-loop-page
invariant-loop-page l = record {
  whole : AllByRecursion IsPage (take l.page-index l.pages);
  words : AllByRecursion HoldsWords (take l.page-index l.pages);
}
