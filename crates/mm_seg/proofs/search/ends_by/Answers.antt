use Rattle.std.proofs.Common.{◌+◌, ◌-◌, ◌/◌, ◌<◌, ◌≤◌, length, arith}
use Rattle.mm_seg.{specs.Segments.{end_of, segment_at}, proofs.Searches.{ends_low, ends_high}}
use Rattle.mm_seg.proofs.search.ends_by.Goals as goal

pub loop-lo-preserved-then-end-a : goal.loop-lo-preserved-then-end-a
loop-lo-preserved-then-end-a c =
    let small : c.loop-lo.lo + (c.loop-lo.hi - c.loop-lo.lo) / 2 < length c.args.items.now = omega arith in
    let le : end_of (segment_at c.args.items.now (c.loop-lo.lo + (c.loop-lo.hi - c.loop-lo.lo) / 2)) ≤ c.args.a = omega (arith, c.end.ensures) in
    (omega arith, omega arith, ends_low c.args.items.now c.requires _ c.args.a small le, c.loop-lo.invariant.3)

pub loop-lo-preserved : goal.loop-lo-preserved
loop-lo-preserved c =
    let small : c.loop-lo.lo + (c.loop-lo.hi - c.loop-lo.lo) / 2 < length c.args.items.now = omega arith in
    let lt : c.args.a < end_of (segment_at c.args.items.now (c.loop-lo.lo + (c.loop-lo.hi - c.loop-lo.lo) / 2)) = omega (arith, c.end.ensures) in
    (omega arith, omega arith, c.loop-lo.invariant.2, ends_high c.args.items.now c.requires _ c.args.a small lt)
