use Rattle.std.proofs.Common.{◌≡◌, ◌-◌}
use Rattle.mm_keep.specs.{Claims.Grows, Searching.IsSearching}
use Rattle.mm_keep.proofs.search.Search.look_at_new.Given as goal

abbrev pub invariant-loop-self : goal.invariant-loop-self
invariant-loop-self l = record {
  searching : IsSearching l.kernel.image l.kernel.kept l.self;
  grows : Grows l.initial.self.tables l.self.tables;
  limit : l.self.limit ≡ l.initial.self.limit;
}

abbrev pub decreases-loop-self : goal.decreases-loop-self
decreases-loop-self l = l.self.limit - l.self.looked
