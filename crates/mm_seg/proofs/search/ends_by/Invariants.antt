use Rattle.std.proofs.Common.{ℕ, ◌<◌, ◌≤◌, ◌-◌, length}
use Rattle.mm_seg.specs.Segments.{end_of, segment_at}
use Rattle.mm_seg.proofs.search.ends_by.Given as goal

abbrev pub invariant-loop-lo : goal.invariant-loop-lo
invariant-loop-lo l = (l.lo ≤ l.hi) × (l.hi ≤ length l.items)
    × ((k : ℕ) → k < l.lo → end_of (segment_at l.items k) ≤ l.a) × ((k : ℕ) → l.hi ≤ k → k < length l.items
    → l.a < end_of (segment_at l.items k))

abbrev pub decreases-loop-lo : goal.decreases-loop-lo
decreases-loop-lo l = l.hi - l.lo
