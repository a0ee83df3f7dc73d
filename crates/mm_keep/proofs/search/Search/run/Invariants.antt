use Rattle.std.proofs.Common.{◌≡◌}
use Rattle.mm_keep.specs.Searching.{IsSearching}
use Rattle.mm_keep.proofs.search.Search.run.Given as goal

abbrev pub invariant-loop : goal.invariant-loop
invariant-loop l = record {
  searching : IsSearching l.kernel.image l.kernel.kept l.self;
  limit : l.self.limit ≡ l.initial.self.limit;
}
