use Rattle.std.proofs.Common.{◌-◌, arith}
use Rattle.mm_config.proofs.PageTrees.{lower_by}
use Rattle.mm_config.proofs.pages.lower.Goals as goal

pub loop-names-preserved : goal.loop-names-preserved
loop-names-preserved c =
    let pairs = c.args.pairs.now in
    let l = c.loop-names in
    let some = c.loop-names-test.true in
    let few = l.invariant.few in
    record {
      same = lower_by pairs pairs c.args.names.now l.names l.invariant.same (l.names.height - 1) c.parts-left.result (omega (arith, some)) c.parts-left.ensures c.if-right-ne0.false;
      few = omega (arith, few);
    }
