use Rattle.std.proofs.Common.{ℕ, MatchOption}
use Rattle.mm_why.specs.Owning.{IsUsable}
use Rattle.mm_why.proofs.uses.earliest.Given as goal

abbrev pub invariant-loop-k : goal.invariant-loop-k
invariant-loop-k l = MatchOption l.best ((t : ℕ) → IsUsable l.lines l.places l.how l.word l.k t → ⊥) (IsUsable l.lines l.places l.how l.word l.k)
