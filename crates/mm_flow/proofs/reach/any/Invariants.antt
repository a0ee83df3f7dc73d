use Rattle.std.{proofs.Common.{◌≡◌, ℕ, ◌↔◌}, specs.Int.bit_at}
use Rattle.mm_flow.{specs.Edges.right_at, proofs.Kept.SomeBefore}
use Rattle.mm_flow.proofs.reach.any.Given as goal

abbrev pub invariant-loop-k : goal.invariant-loop-k
invariant-loop-k l = (g : ℕ) → (bit_at l.all g ≡ 1) ↔ SomeBefore l.k l.marks (right_at l.nodes l.right) g
