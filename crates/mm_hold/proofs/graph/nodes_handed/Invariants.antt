use Rattle.std.proofs.Common.{◌⊎◌, ◌↔◌, ℕ}
use Rattle.std.specs.Prelude.{Contains}
use Rattle.mm_hold.specs.Graphs.{HandedAt}
use Rattle.mm_hold.proofs.graph.nodes_handed.Given as goal

abbrev pub invariant-loop-hand : goal.invariant-loop-hand
invariant-loop-hand l =
    (h : ℕ × ℕ) → (Contains l.nodes.items h ⊎ HandedAt l.kernel.kept l.keys l.hand-iterator h) ↔ HandedAt l.kernel.kept l.keys l.handed.keys h
