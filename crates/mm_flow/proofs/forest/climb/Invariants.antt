use Rattle.std.proofs.Common.{ℕ, ◌<◌, ◌≤◌, slice_index}
use Rattle.mm_flow.specs.Sharing.{Up}
use Rattle.mm_flow.proofs.forest.climb.Given as goal

abbrev pub invariant-loop-at : goal.invariant-loop-at
invariant-loop-at l = (l.at ≤ l.from) × ((j : ℕ) → j ≤ l.from → l.x < slice_index l.ends j → Up l.par j l.at)

abbrev pub decreases-loop-at : goal.decreases-loop-at
decreases-loop-at l = l.at
