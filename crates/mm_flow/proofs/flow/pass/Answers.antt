use Rattle.std.proofs.Common.{arith}
use Rattle.mm_flow.specs.{Graph.edges_of, Work.worklist_of}
use Rattle.mm_flow.proofs.Walks.{on_way, walking_more, walking_marks, walking_working}
use Rattle.mm_flow.proofs.flow.pass.Goals as goal

pub walk_on-requires : goal.walk_on-requires
walk_on-requires c =
    let nodes = c.requires.start.nodes in
    let end = c.args.graph.now.ahead.ends c.args.k (let lt = c.requires.node in omega arith) in
    on_way (edges_of c.args.graph.now) c.args.k c.args.mask c.loop-walk.walk.at c.loop-walk.walk.done
    (worklist_of c.args.marks.now c.args.work.now) c.loop-walk.marks c.loop-walk.work.pending.items
    c.loop-walk.work.propagated.items c.loop-walk.invariant
    c.requires.node (omega arith)

pub loop-walk-preserved : goal.loop-walk-preserved
loop-walk-preserved c =
    walking_more (edges_of c.args.graph.now) c.args.k c.args.mask c.loop-walk.walk.at c.loop-walk.walk.done
    (worklist_of c.args.marks.now c.args.work.now) c.loop-walk.marks c.loop-walk.work.pending.items
    c.loop-walk.work.propagated.items c.loop-walk.invariant
    c.in_ok-walk.walk.at c.in_ok-walk.walk.done c.walk_on.new.marks c.walk_on.new.work.pending.items c.walk_on.new.work.propagated.items c.in_ok-walk.ensures

pub returns-clause-marks : goal.returns-clause-marks
returns-clause-marks c =
    walking_marks (edges_of c.args.graph.now) c.args.k c.args.mask c.loop-walk.walk.at c.loop-walk.walk.done
    (worklist_of c.args.marks.now c.args.work.now) c.loop-walk.marks c.loop-walk.work.pending.items
    c.loop-walk.work.propagated.items c.loop-walk.invariant
    c.visit.new.marks c.visit.new.work.pending.items c.in_ok-visit.ensures.marks

pub returns-clause-working : goal.returns-clause-working
returns-clause-working c =
    rw c.in_ok-visit.ensures.same (
    walking_working (edges_of c.args.graph.now) c.args.k c.args.mask c.loop-walk.walk.at c.loop-walk.walk.done
    (worklist_of c.args.marks.now c.args.work.now) c.loop-walk.marks c.loop-walk.work.pending.items
    c.loop-walk.work.propagated.items c.loop-walk.invariant
    c.visit.new.marks c.visit.new.work.pending.items c.in_ok-visit.ensures.marks c.in_ok-visit.ensures.stays)
