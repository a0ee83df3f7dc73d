use Rattle.std.proofs.Common.{ℕ, MatchOption}
use Rattle.mm_why.specs.Carrying.{IsWith}
use Rattle.mm_why.proofs.carriers.first_with.Given as goal

abbrev pub invariant-loop-k : goal.invariant-loop-k
invariant-loop-k l = MatchOption l.best ((t : ℕ) → IsWith l.graph l.places l.right l.k t → ⊥) (IsWith l.graph l.places l.right l.k)
