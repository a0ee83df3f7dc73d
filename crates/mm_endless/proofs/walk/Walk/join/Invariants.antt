use Rattle.std.proofs.Common.{◌≡◌, length}
use Rattle.mm_endless.specs.Stages.{stage_of, IsStage}
use Rattle.mm_endless.proofs.walk.Walk.join.Given as goal

-- only bounds were taken away
abbrev pub invariant-loop-bound : goal.invariant-loop-bound
invariant-loop-bound l = record {
  stage : IsStage l.self.graph.now (stage_of l.self);
  same : stage_of l.self ≡ record (stage_of l.fn.self) { bounds = l.self.bounds.items };
  graph : l.self.graph.now ≡ l.fn.self.graph.now;
}

abbrev pub decreases-loop-bound : goal.decreases-loop-bound
decreases-loop-bound l = length l.self.bounds.items
