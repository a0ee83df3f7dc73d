use Rattle.std.proofs.Common.{◌≡◌, length}
use Rattle.mm_graph.proofs.Places.{Filled}
use Rattle.mm_graph.proofs.targets.fill_targets.Given as goal

abbrev pub invariant-loop-k : goal.invariant-loop-k
invariant-loop-k l = Filled l.keys l.placed l.targets l.k × (length l.targets ≡ length l.fn.targets)
