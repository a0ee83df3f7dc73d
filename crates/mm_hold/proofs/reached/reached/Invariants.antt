use Rattle.mm_hold.specs.Holdings.{AreReached}
use Rattle.mm_hold.proofs.reached.reached.Given as goal

abbrev pub invariant-loop-node : goal.invariant-loop-node
invariant-loop-node l = AreReached l.slots l.marks l.node l.reached.items
