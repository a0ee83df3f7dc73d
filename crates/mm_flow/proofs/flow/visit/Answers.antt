use Rattle.std.proofs.Common.{◌≤◌, arith, refl, ◌∙◌}
use Rattle.mm_flow.proofs.{Masks.propagated_more, Walks.propagated_none}
use Rattle.mm_flow.proofs.flow.visit.Goals as goal

pub loop-j-init : goal.loop-j-init
loop-j-init c = (propagated_none c.args.targets.now c.args.marks.now c.args.work.now.pending.items c.args.mask c.args.lo c.args.lo (omega arith), λ k x. x, refl)

pub loop-j-preserved : goal.loop-j-preserved
loop-j-preserved c =
    let low : c.args.lo ≤ c.loop-j.j = omega arith in
    let stays = c.in_ok-propagate.ensures.stays in (
      propagated_more c.args.targets.now c.args.marks.now c.args.work.now.pending.items c.loop-j.marks
          c.loop-j.work.pending.items c.args.mask c.args.lo c.loop-j.j low c.loop-j.invariant.0 c.propagate.new.marks
          c.propagate.new.work.pending.items c.in_ok-propagate.ensures.marks,
      λ k x. (rw c.loop-j.invariant.2 at stays) k (c.loop-j.invariant.1 k x),
      c.in_ok-propagate.ensures.same ∙ c.loop-j.invariant.2,
    )
