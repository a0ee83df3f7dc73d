use Rattle.std.proofs.Common.{MatchOption}
use Rattle.mm_audit.specs.Writers.{NoneWith, LeastWith}
use Rattle.mm_audit.proofs.writers.least_with.Given as goal

abbrev pub invariant-loop-g : goal.invariant-loop-g
invariant-loop-g l = MatchOption l.best (NoneWith l.row l.fn.inside l.g) (λ w. LeastWith l.row l.fn.inside l.g w)
