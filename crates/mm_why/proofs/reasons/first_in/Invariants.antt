use Rattle.std.{proofs.Common.{◌≡◌, ℕ, ◌<◌}, specs.Int.bit_at}
use Rattle.mm_flow.specs.Flow.{Has}
use Rattle.mm_why.proofs.reasons.first_in.Given as goal

abbrev pub invariant-loop-k : goal.invariant-loop-k
invariant-loop-k l = (k : ℕ) → k < l.k → bit_at l.mask k ≡ 1 → Has l.table k l.to → ⊥
