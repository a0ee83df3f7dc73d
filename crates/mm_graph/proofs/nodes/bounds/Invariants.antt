use Rattle.std.proofs.Common.{ℕ, ◌<◌, ◌≤◌, ◌-◌, length}
use Rattle.mm_graph.specs.Nodes.{found_word}
use Rattle.mm_graph.proofs.nodes.bounds.Given as goal

abbrev pub invariant-loop-step : goal.invariant-loop-step
invariant-loop-step l = (l.low ≤ length l.found) × (0 < l.step) × ((j : ℕ) → j < l.low → found_word l.found j < l.a)

abbrev pub decreases-loop-step : goal.decreases-loop-step
decreases-loop-step l = length l.found - l.low
