use Rattle.std.proofs.Common.{◌≡◌, ◌++◌, length}
use Rattle.mm_audit.specs.Walks.{outermost}
use Rattle.mm_audit.proofs.sets.set_of.Given as goal

abbrev pub invariant-loop-base : goal.invariant-loop-base
invariant-loop-base l = outermost l.fn.how l.groups 0 l.spans ≡ l.set ++ l.segments

abbrev pub decreases-loop-base : goal.decreases-loop-base
decreases-loop-base l = length l.segments
