use Rattle.std.{proofs.Common.arith, specs.List.Sorted.IsStrictlySortedBy}
use Rattle.mm_debug.proofs.breakpoints.Breaks.new.Goals as goal

pub invariant_of-result : goal.invariant_of-result
unfolding IsStrictlySortedBy
invariant_of-result c = rw c.new.ensures ((record { rise = tt; few = omega arith }, tt))
