use Rattle.std.proofs.Common.{◌+◌, ◌-◌, ◌/◌, ◌<◌, length, arith}
use Rattle.mm_seg.proofs.Searches.{begins_low, begins_high}
use Rattle.mm_seg.proofs.search.begins_by.Goals as goal

pub loop-lo-preserved-then-items-mid : goal.loop-lo-preserved-then-items-mid
loop-lo-preserved-then-items-mid c =
    let small : c.loop-lo.lo + (c.loop-lo.hi - c.loop-lo.lo) / 2 < length c.args.items.now = omega arith in
    (omega arith, omega arith, begins_low c.args.items.now c.requires _ c.args.a small c.if-items-mid.true, c.loop-lo.invariant.3)

pub loop-lo-preserved : goal.loop-lo-preserved
loop-lo-preserved c =
    let small : c.loop-lo.lo + (c.loop-lo.hi - c.loop-lo.lo) / 2 < length c.args.items.now = omega arith in
    (omega arith, omega arith, c.loop-lo.invariant.2, begins_high c.args.items.now c.requires _ c.args.a small c.if-items-mid.false)
