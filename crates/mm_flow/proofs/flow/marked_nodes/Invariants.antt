use Rattle.std.proofs.Common.{◌≡◌, ℕ, ◌<◌, ◌⊎◌, slice_index}
use Rattle.mm_flow.specs.Work.{IsIn}
use Rattle.mm_flow.proofs.flow.marked_nodes.Given as goal

abbrev pub invariant-loop-k : goal.invariant-loop-k
invariant-loop-k l = ((n : ℕ) → IsIn n l.all.items → n < l.k) × ((n : ℕ) → n < l.k → IsIn n l.all.items ⊎ (slice_index l.marks n ≡ 0))
