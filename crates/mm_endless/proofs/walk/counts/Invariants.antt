use Rattle.std.proofs.Common.{◌≡◌, ◌<◌, ℕ, length, slice_index_or}
use Rattle.mm_endless.specs.Graphs.{children}
use Rattle.mm_endless.proofs.walk.counts.Given as goal

-- the counts so far
abbrev pub invariant-loop-node : goal.invariant-loop-node
invariant-loop-node l = record {
  count : length l.counts.items ≡ l.node;
  each : (a : ℕ) → a < l.node → slice_index_or l.counts.items a 0 ≡ length (children l.graph a);
}
