use Rattle.std.proofs.Common.{◌≤◌, ℕ, length, drop}
use Rattle.std.specs.Prelude.{Contains}
use Rattle.mm_endless.specs.Stages.{stage_of, number_of}
use Rattle.mm_endless.proofs.walk.Walk.begin_of.Given as goal

-- the nodes from the index on have no lesser number than the bound
abbrev pub invariant-loop-from : goal.invariant-loop-from
invariant-loop-from l = record {
  within : l.from ≤ length l.self.finished.items;
  inside : (v : ℕ) → Contains (drop l.from l.self.finished.items) v → l.bound ≤ number_of (stage_of l.self) v;
}

abbrev pub decreases-loop-from : goal.decreases-loop-from
decreases-loop-from l = l.from
