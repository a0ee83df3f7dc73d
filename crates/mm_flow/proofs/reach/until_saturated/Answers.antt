use Rattle.mm_flow.proofs.{Walks.ready_still, Saturation.{saturating_start, saturating_more, reach_end}}
use Rattle.mm_flow.proofs.reach.until_saturated.Goals as goal

pub loop-sharing-init : goal.loop-sharing-init
loop-sharing-init c = (saturating_start _ _ c.args.marks.now, c.requires.ready)

pub returns-then-not-propagate_shared-clause-reach : goal.returns-then-not-propagate_shared-clause-reach
returns-then-not-propagate_shared-clause-reach c =
    reach_end _ _ c.args.marks.now c.loop-sharing.marks c.flow.new.marks c.sharing_edges.new.sharing
    c.propagate_shared.new.marks c.propagate_shared.result c.loop-sharing.invariant.0 c.in_ok-flow.ensures.flow
    c.in_ok-sharing_edges.ensures c.propagate_shared.ensures c.if-not-propagate_shared.true

pub loop-sharing-preserved : goal.loop-sharing-preserved
loop-sharing-preserved c = (
  saturating_more _ _ c.args.marks.now c.loop-sharing.marks c.flow.new.marks c.sharing_edges.new.sharing
      c.propagate_shared.new.marks c.propagate_shared.result c.loop-sharing.invariant.0 c.in_ok-flow.ensures.flow
      c.in_ok-sharing_edges.ensures c.propagate_shared.ensures,
  ready_still _ c.flow.new.marks c.propagate_shared.new.marks _ c.propagate_shared.ensures.len c.propagate_shared.ensures.grows c.in_ok-flow.ensures.ready,
)
