use Rattle.std.{proofs.Common.{◌≡◌, take}, specs.List.All}
use Rattle.mm_graph.specs.{Key.IsKey, Found.seeds_of}
use Rattle.mm_graph.proofs.seed.seeds_in.Given as goal

abbrev pub invariant-loop-slot : goal.invariant-loop-slot
invariant-loop-slot l = (l.seeds.items ≡ seeds_of (take l.slot-index l.slots)) × All (λ s. IsKey s.key) l.seeds.items
