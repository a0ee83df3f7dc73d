use Rattle.std.proofs.Common.{◌<◌, length, arith}
use Rattle.mm_flow.{specs.Graph.edges_of, proofs.Walks.{walked_marked, walked_by}}
use Rattle.mm_flow.proofs.flow.walk_on.Goals as goal

pub returns-then-not-has_propagated : goal.returns-then-not-has_propagated
returns-then-not-has_propagated c =
    let within = c.is_within.ensures in
    let yes = c.if-not-is_within.false in
    rw (c.add.ensures.propagated, c.add.ensures.pending) (
    walked_marked (edges_of c.args.graph.now) c.args.k c.args.mask c.args.walk.at c.args.walk.done c.args.marks.now c.args.work.now.pending.items c.args.work.now.propagated.items c.requires.end
    (let e = c.requires.len in let lt = c.requires.node in omega arith) (within.low yes, within.high yes) (within.entry yes))

pub returns : goal.returns
returns c =
    let within = c.is_within.ensures in
    let yes = c.if-not-is_within.false in
    let g = c.args.graph.now in
    let node : c.args.walk.at < length g.nodes.now = (let e = c.requires.nodes in let lt = c.requires.node in omega arith) in
    rw c.in_ok-visit.ensures.same (
    walked_by (edges_of g) c.args.k c.args.mask c.args.walk.at c.args.walk.done c.args.marks.now
    c.args.work.now.pending.items c.args.work.now.propagated.items c.requires.end _ c.max-start.result
    c.max.result c.visit.new.marks c.visit.new.work.pending.items
    (g.ahead.later c.args.walk.at node) c.max-start.ensures c.max.ensures (g.fits.order c.args.walk.at node)
    (within.low yes, within.high yes) (c.has_propagated.ensures.0 c.if-not-has_propagated.false) c.requires.passed c.in_ok-visit.ensures.marks c.in_ok-visit.ensures.stays)
