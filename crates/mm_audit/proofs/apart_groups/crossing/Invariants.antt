use Rattle.std.proofs.Common.{MatchOption}
use Rattle.mm_model.specs.Groups.{among}
use Rattle.mm_audit.specs.Crossing.{NoCrossing, LeastCrossing}
use Rattle.mm_audit.proofs.apart_groups.crossing.Given as goal

abbrev pub invariant-loop-k : goal.invariant-loop-k
invariant-loop-k l = MatchOption l.best (NoCrossing l.served (among l.groups) l.k) (LeastCrossing l.served (among l.groups) l.k)
