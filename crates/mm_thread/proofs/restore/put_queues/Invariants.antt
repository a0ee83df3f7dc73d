use Rattle.std.proofs.Common.{◌≡◌, map, drop, length}
use Rattle.mm_thread.specs.Revisions.{with_queues, queue_in_place}
use Rattle.mm_thread.proofs.restore.put_queues.Given as goal

abbrev pub invariant-loop-at : goal.invariant-loop-at
invariant-loop-at l = record {
  long : length l.tables.rows ≡ length l.fn.tables.rows;
  rest : with_queues (map queue_in_place (drop l.at-index l.queues)) l.tables
      ≡ with_queues (map queue_in_place l.queues) l.fn.tables;
}
