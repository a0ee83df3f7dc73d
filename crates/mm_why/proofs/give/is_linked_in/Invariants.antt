use Rattle.mm_why.specs.Giving.{JoinedBy}
use Rattle.mm_why.proofs.give.is_linked_in.Given as goal

abbrev pub invariant-loop-k : goal.invariant-loop-k
invariant-loop-k l = JoinedBy l.slots l.k l.one l.other l.served → ⊥
