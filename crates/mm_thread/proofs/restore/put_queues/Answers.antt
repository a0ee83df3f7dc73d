use Rattle.std.proofs.Common.{◌<◌, ◌≤◌, length, ap, arith}
use Rattle.mm_thread.{specs.Revisions.queue_in_place, proofs.Revised.each_at}
use Rattle.mm_thread.proofs.restore.put_queues.Goals as goal

pub put_queue-requires-clause-at : goal.put_queue-requires-clause-at
put_queue-requires-clause-at c =
    let t = c.args.tables.now in
    let one = each_at queue_in_place (λ x. (x.0 < length t.rows) × (length x.1 ≤ 64)) c.args.queues.now c.loop-at.at-index c.loop-at-item.result c.requires (omega arith) c.loop-at-item.is in
    omega (arith, one.0, c.loop-at.invariant.long)

pub put_queue-requires-clause-room : goal.put_queue-requires-clause-room
put_queue-requires-clause-room c =
    let t = c.args.tables.now in
    let one = each_at queue_in_place (λ x. (x.0 < length t.rows) × (length x.1 ≤ 64)) c.args.queues.now c.loop-at.at-index c.loop-at-item.result c.requires (omega arith) c.loop-at-item.is in
    omega (arith, one.1, ap length c.deref.ensures.value)
