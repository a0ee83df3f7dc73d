use Rattle.std.proofs.Common.{◌≡◌}
use Rattle.mm_endless.specs.Stages.{stage_of, IsStage, IsLater, IsMet, work_left}
use Rattle.mm_endless.proofs.walk.Walk.visit.Given as goal

abbrev pub invariant-loop-node : goal.invariant-loop-node
invariant-loop-node l = record {
  stage : IsStage l.self.graph.now (stage_of l.self);
  graph : l.self.graph.now ≡ l.fn.self.graph.now;
  later : IsLater (stage_of l.fn.self) (stage_of l.self);
  met : IsMet (stage_of l.self) l.root;
}

abbrev pub decreases-loop-node : goal.decreases-loop-node
decreases-loop-node l = work_left (stage_of l.self)
