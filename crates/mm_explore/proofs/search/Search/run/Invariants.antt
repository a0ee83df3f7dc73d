use Rattle.std.proofs.Common.{◌≡◌, ◌≤◌, ◌-◌, length}
use Rattle.mm_explore.specs.Searching.{IsBefore}
use Rattle.mm_explore.proofs.search.Search.run.Given as goal

abbrev pub invariant-loop-at : goal.invariant-loop-at
invariant-loop-at l = record {
  before : IsBefore l.img l.self l.at;
  low : l.at ≤ length l.self.found;
  limit : l.self.limit ≡ l.fn.self.limit;
}

abbrev pub decreases-loop-at : goal.decreases-loop-at
decreases-loop-at l = l.self.limit - l.at
