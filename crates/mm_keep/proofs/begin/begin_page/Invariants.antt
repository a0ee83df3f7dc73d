use Rattle.std.proofs.Common.{◌≡◌, ◌++◌}
use Rattle.std.specs.List.{flat_map}
use Rattle.mm_keep.specs.Claims.{AddsFacts}
use Rattle.mm_keep.specs.Searching.{first_at, handed_at, words_below}
use Rattle.mm_keep.proofs.begin.begin_page.Given as goal

abbrev pub invariant-loop-k : goal.invariant-loop-k
invariant-loop-k l = record {
  facts : AddsFacts l.kernel.image l.kernel.kept (flat_map (handed_at l.kernel.image l.kernel.kept) (words_below l.page.0 l.k)) l.initial.tables l.tables;
  first : l.first.items ≡ l.initial.first.items ++ flat_map (first_at l.kernel.image l.kernel.kept) (words_below l.page.0 l.k);
}
