use Rattle.std.proofs.Common.{◌≡◌, ℕ, ◌<◌, length, slice_index}
use Rattle.mm_graph.specs.Key.{key_at}
use Rattle.mm_graph.proofs.above.bases_of.Given as goal

abbrev pub invariant-loop-k : goal.invariant-loop-k
invariant-loop-k l = (length l.bases.items ≡ l.k) × ((j : ℕ) → j < l.k → slice_index l.bases.items j ≡ (key_at l.keys j).base)
