use Rattle.std.proofs.Common.{ℕ}
use Rattle.mm_why.specs.Giving.{JoinedAt}
use Rattle.mm_why.proofs.give.linking_slot.Given as goal

abbrev pub invariant-loop-k : goal.invariant-loop-k
invariant-loop-k l = (n : ℕ) → JoinedAt l.slots l.k l.one l.other n → ⊥
