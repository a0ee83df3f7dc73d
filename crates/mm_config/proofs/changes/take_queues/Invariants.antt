use Rattle.std.proofs.Common.{◌≡◌, map, take}
use Rattle.mm_thread.specs.Revisions.{queue_in_place}
use Rattle.mm_config.specs.Reads.{queue_read}
use Rattle.mm_config.proofs.changes.take_queues.Given as goal

abbrev pub invariant-loop-at : goal.invariant-loop-at
invariant-loop-at l = map queue_in_place l.queues.items ≡ map (queue_read l.lists) (take l.at-index l.changes)
