use Rattle.std.proofs.Common.{take}
use Rattle.mm_keep.specs.Claims.{Adds}
use Rattle.mm_keep.specs.Searching.{SomeAtOnce}
use Rattle.mm_keep.proofs.follow.follow_all.Given as goal

abbrev pub invariant-loop-outcome : goal.invariant-loop-outcome
invariant-loop-outcome l = Adds l.kernel.image l.kernel.kept (SomeAtOnce l.kernel.image l.kernel.kept l.first l.t (take l.outcome-index l.outcomes)) l.initial.tables l.tables
