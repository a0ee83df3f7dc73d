use Rattle.mm_object.proofs.Adjacent.{NamesAscendBelow}
use Rattle.mm_object.proofs.segments.ascend.Given as goal

abbrev pub invariant-loop-k : goal.invariant-loop-k
invariant-loop-k l = NamesAscendBelow l.names l.k
