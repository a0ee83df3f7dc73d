use Rattle.std.proofs.Common.{◌≡◌, ℕ, false, take}
use Rattle.std.specs.Prelude.{Contains, slice_index_or}
use Rattle.mm_endless.specs.Stages.{is_done}
use Rattle.mm_endless.specs.declared.walk.Mark.TheVariants.{Unmet}
use Rattle.mm_endless.proofs.walk.has_done.Given as goal

-- none of the nodes so far is done
abbrev pub invariant-loop-node : goal.invariant-loop-node
invariant-loop-node l = (v : ℕ) → Contains (take l.node-index l.nodes) v → is_done (slice_index_or l.marks v Unmet) ≡ false
