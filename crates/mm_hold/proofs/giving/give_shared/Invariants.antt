use Rattle.mm_hold.specs.Parties.{Is, SharedBy}
use Rattle.mm_hold.proofs.Meeting.{SharedSoFar}
use Rattle.mm_hold.proofs.giving.give_shared.Given as goal

abbrev pub invariant-loop-node : goal.invariant-loop-node
invariant-loop-node l = record {
  so_far : SharedSoFar l.node l.sharing l.fn.marks l.marks l.changed;
  next : Is l.shared (SharedBy l.sharing l.last);
}
