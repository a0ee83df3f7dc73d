use Rattle.std.proofs.{Common.{arith, length}, lemmas.Grind.common_steps}
use Rattle.mm_object.{specs.Objects.is_value, proofs.Bools.all_at}
use Rattle.mm_link.proofs.offsets.check_values.Goals as goal

pub check_value-requires : goal.check_value-requires
check_value-requires c =
    let o = c.args.object.now in
    all_at (is_value o.segments (length o.externals)) c.args.values.now c.requires c.loop-value.value-index _ c.loop-value-test.true

pub loop-value-preserved : goal.loop-value-preserved
loop-value-preserved c = grind (arith, common_steps)
