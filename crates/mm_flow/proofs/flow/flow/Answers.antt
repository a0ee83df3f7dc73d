use Rattle.std.proofs.Common.{arith, subst}
use Rattle.mm_flow.specs.{Work.Flowing, Graph.edges_of}
use Rattle.mm_flow.proofs.Steps.{flowing_start, flowing_step, flowing_end, working_taken}
use Rattle.mm_flow.proofs.flow.flow.Goals as goal

pub loop-k-init : goal.loop-k-init
loop-k-init c = flowing_start (edges_of c.args.graph.now) c.args.marks.now c.args.work.now.propagated.items _ c.requires c.in_ok-work.ensures.below c.in_ok-work.ensures.all

pub step-requires-clause-node : goal.step-requires-clause-node
step-requires-clause-node c =
    let lt = c.loop-k.invariant.nodes c.in-Some.k c.in-Some.ensures.there in
    let e = c.loop-k.invariant.len in
    omega arith

pub step-requires-clause-working : goal.step-requires-clause-working
step-requires-clause-working c = working_taken (edges_of c.args.graph.now) c.loop-k.marks c.loop-k.work.propagated.items
    c.loop-k.work.pending.items _ c.in-Some.k c.loop-k.invariant.working c.in-Some.ensures

pub loop-k-preserved : goal.loop-k-preserved
loop-k-preserved c =
    let s = c.in_ok-step.ensures.step in
    let lt = c.loop-k.invariant.nodes c.in-Some.k c.in-Some.ensures.there in
    flowing_step (edges_of c.args.graph.now) c.args.marks.now c.loop-k.marks c.loop-k.work.propagated.items _ s.marks
    s.pending c.step.new.marks c.step.new.work.propagated.items c.step.new.work.pending.items c.in-Some.k
    c.loop-k.work.pending.items
    c.loop-k.invariant c.in-Some.ensures lt s.entry s.cells c.in_ok-step.ensures.working

pub returns-clause-flow : goal.returns-clause-flow
returns-clause-flow c =
    flowing_end (edges_of c.args.graph.now) c.args.marks.now c.loop-k.marks c.loop-k.work.propagated.items
    (subst (Flowing (edges_of c.args.graph.now) c.args.marks.now c.loop-k.marks c.loop-k.work.propagated.items)
    c.in_default.ensures c.loop-k.invariant)

pub returns-clause-ready : goal.returns-clause-ready
returns-clause-ready c = c.loop-k.invariant.working.ready
