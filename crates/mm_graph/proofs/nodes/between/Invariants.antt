use Rattle.std.proofs.Common.{ℕ, ◌<◌, ◌≤◌, ◌-◌, length}
use Rattle.mm_graph.specs.Nodes.{found_word}
use Rattle.mm_graph.proofs.nodes.between.Given as goal

abbrev pub invariant-loop-lo : goal.invariant-loop-lo
invariant-loop-lo l = (l.lo ≤ l.hi) × (l.hi ≤ length l.found) × ((k : ℕ) → k < l.lo → found_word l.found k < l.a) × ((k : ℕ) → l.hi ≤ k → k < length l.found → l.a ≤ found_word l.found k)

abbrev pub decreases-loop-lo : goal.decreases-loop-lo
decreases-loop-lo l = l.hi - l.lo
