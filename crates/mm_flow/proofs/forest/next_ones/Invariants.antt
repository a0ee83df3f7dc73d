use Rattle.std.proofs.Common.{◌≡◌, ℕ, ◌+◌, ◌<◌, length, slice_index}
use Rattle.mm_flow.proofs.forest.next_ones.Given as goal

abbrev pub invariant-loop-k : goal.invariant-loop-k
invariant-loop-k l = (length l.next.items ≡ l.k) × ((i : ℕ) → i < l.k → slice_index l.next.items i ≡ i + 1)
