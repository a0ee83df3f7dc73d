use Rattle.std.proofs.Common.{◌≡◌, length}
use Rattle.mm_flow.specs.{Edges.right_at, Sharing.AreMarksAbove}
use Rattle.mm_flow.proofs.sharing.marks_above.Given as goal

abbrev pub invariant-loop-k : goal.invariant-loop-k
invariant-loop-k l = AreMarksAbove l.parents l.marks (right_at l.nodes l.right) l.out.items × (length l.out.items ≡ l.k)
