use Rattle.std.proofs.Common.{◌≡◌, ℕ, false, take, slice_index_or}
use Rattle.std.specs.Prelude.{Contains}
use Rattle.mm_endless.specs.{Graphs.children, Stages.is_done}
use Rattle.mm_endless.specs.declared.walk.Mark.TheVariants.{Unmet}
use Rattle.mm_endless.proofs.walk.Walk.first_of.Given as goal

-- no node so far has a child that is done
abbrev pub invariant-loop-node : goal.invariant-loop-node
invariant-loop-node l = (v c : ℕ) → Contains (take l.node-index l.members) v → Contains (children l.self.graph.now v) c
    → is_done (slice_index_or l.self.marks.items c Unmet) ≡ false
