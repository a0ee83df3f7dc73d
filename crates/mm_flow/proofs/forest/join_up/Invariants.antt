use Rattle.std.proofs.Common.{length}
use Rattle.mm_flow.specs.Work.{IsAhead}
use Rattle.mm_flow.proofs.forest.join_up.Given as goal

abbrev pub invariant-loop-k : goal.invariant-loop-k
invariant-loop-k l = IsAhead l.next (length l.parents)
