use Rattle.std.{proofs.Common.{◌≡◌, ℕ, ◌↔◌}, specs.Int.bit_at}
use Rattle.mm_flow.proofs.Kept.{SomeBefore}
use Rattle.mm_graph.specs.Marked.{node_pointer}
use Rattle.mm_why.specs.Owning.{can_use}
use Rattle.mm_why.proofs.uses.givers.Given as goal

abbrev pub invariant-loop-k : goal.invariant-loop-k
invariant-loop-k l = (g : ℕ) → (bit_at l.all g ≡ 1) ↔ SomeBefore l.k l.marks (λ k. can_use l.how (node_pointer l.graph.keys.items k) l.word) g
