use Rattle.std.proofs.Common.{◌≡◌, length}
use Rattle.mm_flow.specs.Forest.{IsForest}
use Rattle.mm_flow.proofs.forest.parents.Given as goal

abbrev pub invariant-loop-k : goal.invariant-loop-k
invariant-loop-k l = IsForest l.bases l.ends l.par.items × (length l.par.items ≡ l.k)
