use Rattle.std.proofs.Common.{◌≡◌, ◌<◌, ℕ, []}
use Rattle.mm_endless.specs.Stages.{stage_of, IsStage, IsDone}
use Rattle.mm_endless.proofs.closed.closed_sets.Given as goal

-- the nodes so far are done
abbrev pub invariant-loop-root : goal.invariant-loop-root
invariant-loop-root l = record {
  stage : IsStage l.graph (stage_of l.walk);
  graph : l.walk.graph.now ≡ l.graph;
  unfinished : l.walk.unfinished.items ≡ [];
  done : (v : ℕ) → v < l.root → IsDone (stage_of l.walk) v;
}
