use Rattle.std.proofs.{Common.{arith, ◌++◌, ap, ◌∙◌}, lemmas.Grind.common_steps}
use Rattle.mm_audit.proofs.{Collecting.{next_segment, next_behind}, Outermost.outermost_set}
use Rattle.mm_audit.proofs.sets.set_of.Goals as goal

pub push-requires-clause-segment : goal.push-requires-clause-segment
push-requires-clause-segment c =
    next_segment (c.in-Some.base, c.in-Some.log) c.next.new.self c.loop-base.set _ (outermost_set c.args.how c.args.groups c.args.spans.now 0 c.requires)
    (c.loop-base.invariant ∙ ap (λ v. c.loop-base.set ++ v) c.in-Some.ensures)

pub push-requires-clause-behind : goal.push-requires-clause-behind
push-requires-clause-behind c =
    next_behind (c.in-Some.base, c.in-Some.log) c.next.new.self c.loop-base.set _ (outermost_set c.args.how c.args.groups c.args.spans.now 0 c.requires)
    (c.loop-base.invariant ∙ ap (λ v. c.loop-base.set ++ v) c.in-Some.ensures)

pub loop-base-preserved : goal.loop-base-preserved
loop-base-preserved c = grind (arith, common_steps)
