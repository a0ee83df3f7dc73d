use Rattle.std.proofs.Common.{arith}
use Rattle.mm_flow.{specs.Graph.edges_of, proofs.Walks.walking_start}
use Rattle.mm_flow.proofs.flow.step.Goals as goal

pub pass-requires-clause-start : goal.pass-requires-clause-start
pass-requires-clause-start c =
    let g = c.args.graph.now in
    let order = g.fits.order c.args.k (let e = c.requires.working.ready.nodes in let lt = c.requires.node in omega arith) in
    rw (c.add.ensures.propagated, c.add.ensures.pending, c.in_ok-propagate.ensures.same) (
    walking_start (edges_of g) c.args.k c.args.marks.now c.args.work.now.pending.items c.args.work.now.propagated.items
    c.propagate.new.marks c.propagate.new.work.pending.items c.requires.working c.requires.node order
    c.in_ok-propagate.ensures.marks c.in_ok-propagate.ensures.stays)

pub returns-clause-step : goal.returns-clause-step
returns-clause-step c = record {
  marks = c.propagate.new.marks;
  pending = c.propagate.new.work.pending.items;
  entry = c.in_ok-propagate.ensures.marks;
  cells = rw c.add.ensures.pending at c.in_ok-pass.ensures.marks;
}
