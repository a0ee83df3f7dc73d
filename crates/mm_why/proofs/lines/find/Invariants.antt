use Rattle.std.proofs.Common.{◌≡◌, ℕ, ◌<◌}
use Rattle.mm_why.specs.Derivations.{line_at}
use Rattle.mm_why.proofs.lines.find.Given as goal

abbrev pub invariant-loop-k : goal.invariant-loop-k
invariant-loop-k l = (k : ℕ) → k < l.k → (line_at l.lines k).group ≡ l.group → (line_at l.lines k).pointer ≡ l.pointer → ⊥
