use Rattle.std.proofs.Common.{◌⊎◌, ◌↔◌, ℕ}
use Rattle.std.specs.Prelude.{Contains}
use Rattle.mm_hold.specs.Graphs.{BehindAt}
use Rattle.mm_hold.proofs.graph.nodes_behind.Given as goal

abbrev pub invariant-loop-had : goal.invariant-loop-had
invariant-loop-had l =
    (b : ℕ × ℕ) → (Contains l.behind.items b ⊎ BehindAt l.kernel.kept l.keys l.had-iterator b) ↔ BehindAt l.kernel.kept l.keys l.conduct.has.keys b
