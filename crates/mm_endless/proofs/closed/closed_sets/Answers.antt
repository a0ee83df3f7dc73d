use Rattle.std.proofs.Common.{arith}
use Rattle.mm_endless.specs.Stages.{stage_of}
use Rattle.mm_endless.proofs.Ending.{ends}
use Rattle.mm_endless.proofs.closed.closed_sets.Goals as goal

pub returns : goal.returns
returns c =
    let past = c.loop-root-test.false in
    let all = c.len-root-end.ensures in
    ends c.args.graph.now (stage_of c.loop-root.walk) c.loop-root.invariant.stage (λ v lt. c.loop-root.invariant.done v (omega (arith, past, all, lt)))
