use Rattle.std.proofs.Common.{◌≡◌, ◌≤◌, length}
use Rattle.std.specs.Prelude.{slice_range}
use Rattle.mm_endless.specs.Stages.{stage_of, marked_all}
use Rattle.mm_endless.proofs.walk.Walk.mark_from.Given as goal

-- the nodes so far are marked
abbrev pub invariant-loop-k : goal.invariant-loop-k
invariant-loop-k l = record {
  stage : stage_of l.self ≡ marked_all (stage_of l.fn.self) (slice_range l.fn.self.finished.items l.from l.k) l.first;
  graph : l.self.graph.now ≡ l.fn.self.graph.now;
  end : l.k ≤ length l.fn.self.finished.items;
}
