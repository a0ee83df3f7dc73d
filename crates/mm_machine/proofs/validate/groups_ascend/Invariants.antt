use Rattle.mm_machine.{specs.Snapshot.groups_of, proofs.Rising.RiseBelow}
use Rattle.mm_machine.proofs.validate.groups_ascend.Given as goal

abbrev pub invariant-loop-k : goal.invariant-loop-k
invariant-loop-k l = RiseBelow (groups_of l.outputs) l.k
