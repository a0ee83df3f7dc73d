use Rattle.std.proofs.Common.{◌≡◌, ℕ, ◌<◌, length}
use Rattle.mm_graph.specs.{Key.key_at, Placed.placed_at}
use Rattle.mm_graph.proofs.placed.places_of.Given as goal

abbrev pub invariant-loop-index : goal.invariant-loop-index
invariant-loop-index l = (length l.placed.items ≡ l.index) × ((k : ℕ) → k < l.index → placed_at l.placed.items k ≡ record { key = key_at l.keys k; index = k })
