use Rattle.std.proofs.Common.{ℕ, ◌<◌}
use Rattle.mm_top.specs.Nodes.{LacksNode}
use Rattle.mm_top.proofs.nets.lacking_link.Given as goal

-- none of the links so far lacks a node
abbrev pub invariant-loop-l : goal.invariant-loop-l
invariant-loop-l l = (m : ℕ) → m < l.l → ¬ LacksNode l.links l.count m
