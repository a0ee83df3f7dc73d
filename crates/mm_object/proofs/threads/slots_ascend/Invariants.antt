use Rattle.std.proofs.Common.{map}
use Rattle.mm_object.{specs.declared.thread.Thread.Thread, proofs.Adjacent.AscendBelow}
use Rattle.mm_object.proofs.threads.slots_ascend.Given as goal

abbrev pub invariant-loop-k : goal.invariant-loop-k
invariant-loop-k l = AscendBelow (map (λ (t : Thread). t.slot) l.threads) l.k
