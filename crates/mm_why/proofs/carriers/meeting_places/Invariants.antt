use Rattle.std.proofs.Common.{ℕ, MatchOption}
use Rattle.mm_why.specs.Carrying.{BothAt}
use Rattle.mm_why.proofs.carriers.meeting_places.Given as goal

abbrev pub invariant-loop-k : goal.invariant-loop-k
invariant-loop-k l = MatchOption l.best ((s t : ℕ) → BothAt l.stores.items l.loads.items l.k s t → ⊥) (λ pair. BothAt l.stores.items l.loads.items l.k pair.0 pair.1)
