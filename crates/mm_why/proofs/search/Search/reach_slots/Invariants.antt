use Rattle.mm_why.specs.{Searches.stage_of, Graphs.SlotsPlaced}
use Rattle.mm_why.proofs.search.Search.reach_slots.Given as goal

abbrev pub invariant-loop-k : goal.invariant-loop-k
invariant-loop-k l = SlotsPlaced l.image l.keys l.group l.k (stage_of l.initial.self) (stage_of l.self)
