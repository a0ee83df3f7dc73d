use Rattle.mm_flow.proofs.Saturation.{sharing_end}
use Rattle.mm_flow.proofs.reach.sharing_edges.Goals as goal

pub returns : goal.returns
returns c =
    let w = c.in_ok-writes.ensures.above in
    let t = c.in_ok-touches.ensures.above in
    let lw = c.in_ok-writes.ensures.len in
    let lt = c.in_ok-touches.ensures.len in
    sharing_end _ c.args.marks.now c.in_ok-writes.writes.items c.in_ok-touches.touches.items c.fill.new.sharing
    c.share.new.sharing c.any-makers.result c.any-readers.result lw lt w t
    (rw (c.deref.ensures.value, c.deref-2.ensures.value) at c.fill.ensures) c.any-makers.ensures
    c.any-readers.ensures c.share.ensures
