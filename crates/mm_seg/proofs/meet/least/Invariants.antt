use Rattle.std.proofs.Common.{ℕ, ◌≤◌, ◌-◌, ◌+◌, length}
use Rattle.mm_seg.specs.Segments.{At}
use Rattle.mm_seg.proofs.meet.least.Given as goal

abbrev pub invariant-loop-i : goal.invariant-loop-i
invariant-loop-i l = (p q a : ℕ) → At l.xs p a → At l.ys q a → (l.i ≤ p) × (l.j ≤ q)

abbrev pub decreases-loop-i : goal.decreases-loop-i
decreases-loop-i l = (length l.xs - l.i) + (length l.ys - l.j)
