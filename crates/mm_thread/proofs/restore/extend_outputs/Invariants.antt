use Rattle.std.proofs.Common.{◌≡◌, map, drop, length}
use Rattle.mm_thread.specs.Revisions.{with_outputs, extension}
use Rattle.mm_thread.proofs.restore.extend_outputs.Given as goal

abbrev pub invariant-loop-group : goal.invariant-loop-group
invariant-loop-group l = record {
  groups : length l.tables.outputs ≡ 64;
  rest : with_outputs (map extension (drop l.group-index l.outputs)) l.tables
      ≡ with_outputs (map extension l.outputs) l.fn.tables;
}
