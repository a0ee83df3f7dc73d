use Rattle.std.proofs.Common.{◌≡◌, length, Some}
use Rattle.mm_why.specs.{Searches.{stage_of, place_at, Searching}, Graphs.CellsPlaced}
use Rattle.mm_why.proofs.search.Search.reach_cells.Given as goal

abbrev pub invariant-loop-k : goal.invariant-loop-k
invariant-loop-k l = (length l.self.places.items ≡ length l.subject.graph.now.keys.items)
    × (place_at l.initial.self.places.items l.node ≡ Some l.by → Searching l.subject.image.now l.subject.graph.now.keys.items l.subject.group (stage_of l.initial.self)
    → CellsPlaced l.subject.image.now l.subject.graph.now l.subject.group l.node l.k (stage_of l.initial.self) (stage_of l.self))
