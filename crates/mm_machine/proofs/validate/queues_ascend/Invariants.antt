use Rattle.mm_machine.{specs.Snapshot.queues_of, proofs.Rising.NoneFallsBelow}
use Rattle.mm_machine.proofs.validate.queues_ascend.Given as goal

abbrev pub invariant-loop-k : goal.invariant-loop-k
invariant-loop-k l = NoneFallsBelow (queues_of l.events) l.k
