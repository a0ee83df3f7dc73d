use Rattle.std.proofs.Common.{◌≤◌, length, take}
use Rattle.std.specs.List.{flat_map}
use Rattle.mm_keep.specs.Searching.{Derives, again_facts}
use Rattle.mm_keep.proofs.search.look_again_at.Given as goal

abbrev pub invariant-loop-at : goal.invariant-loop-at
invariant-loop-at l = record {
  derives : Derives l.kernel.image l.kernel.kept (flat_map (again_facts l.kernel.image l.kernel.kept l.initial.tables) (take l.at-index l.readers)) l.initial.tables l.tables;
  few : length l.tables.threads ≤ l.limit;
}
