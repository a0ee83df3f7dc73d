use Rattle.std.proofs.Common.{◌≡◌, subst, arith}
use Rattle.mm_model.specs.Reach.Entries.{All}
use Rattle.mm_sweep.proofs.FirstGroups.{NoGroupBefore, no_group_more, none_privileged, first_privileged}
use Rattle.mm_sweep.proofs.refusing.privileged.Goals as goal

pub returns-then-privileged : goal.returns-then-privileged
returns-then-privileged c = first_privileged c.args.survey.now c.loop-group.group c.privileged.result c.loop-group.invariant (λ i surveys. c.privileged.ensures i All surveys) c.if-privileged.true

pub loop-group-preserved : goal.loop-group-preserved
loop-group-preserved c = no_group_more c.args.survey.now c.loop-group.group c.privileged.result c.loop-group.invariant (λ i surveys. c.privileged.ensures i All surveys) c.if-privileged.false

pub returns : goal.returns
returns c =
    let all : c.loop-group.group ≡ 64 = omega arith in
    none_privileged c.args.survey.now (subst (NoGroupBefore c.args.survey.now) all c.loop-group.invariant)
