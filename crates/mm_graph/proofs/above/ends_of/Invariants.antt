use Rattle.std.proofs.Common.{◌≡◌, ℕ, ◌+◌, ◌-◌, ◌^◌, ◌<◌, length, slice_index}
use Rattle.mm_graph.specs.Key.{key_at}
use Rattle.mm_graph.proofs.above.ends_of.Given as goal

abbrev pub invariant-loop-k : goal.invariant-loop-k
invariant-loop-k l = (length l.ends.items ≡ l.k) × ((j : ℕ) → j < l.k → slice_index l.ends.items j ≡ (key_at l.keys j).base + 2 ^ (54 - (key_at l.keys j).narrow))
