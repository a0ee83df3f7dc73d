use Rattle.std.proofs.Common.{ap, arith}
use Rattle.mm_thread.specs.Output.{Output}
use Rattle.mm_machine.proofs.Rising.{rise_more, rise_not}
use Rattle.mm_machine.proofs.validate.groups_ascend.Goals as goal

pub loop-k-preserved : goal.loop-k-preserved
loop-k-preserved c =
    let before = ap (λ (o : Output). o.group) c.before-in-loop-k.view_is in
    let this = ap (λ (o : Output). o.group) c.output.view_is in
    rise_more (λ (o : Output). o.group) c.args.outputs.now c.loop-k.k c.index-outputs-k.result
    c.index-outputs-k-in-loop-k.result c.loop-k.auto.k c.loop-k-test.true c.index-outputs-k.is
    c.index-outputs-k-in-loop-k.is c.loop-k.invariant
    (omega (arith, before, this, c.if-output-before.false))

pub returns-then-output-before : goal.returns-then-output-before
returns-then-output-before c =
    let before = ap (λ (o : Output). o.group) c.before-in-loop-k.view_is in
    let this = ap (λ (o : Output). o.group) c.output.view_is in (
      λ f. absurd cc,
      λ rising. absurd (rise_not (λ (o : Output). o.group) c.args.outputs.now c.loop-k.k c.index-outputs-k.result
          c.index-outputs-k-in-loop-k.result c.loop-k.auto.k c.loop-k-test.true c.index-outputs-k.is
          c.index-outputs-k-in-loop-k.is
          (omega (arith, before, this, c.if-output-before.true)) rising),
    )
