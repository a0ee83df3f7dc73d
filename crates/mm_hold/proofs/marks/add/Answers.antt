use Rattle.std.proofs.Common.{◌<◌, ◌^◌, slice_index, arith}
use Rattle.mm_hold.proofs.Marked.{mask_same, mask_new}
use Rattle.mm_hold.proofs.marks.add.Goals as goal

pub returns-then-new-old : goal.returns-then-new-old
returns-then-new-old c = mask_same c.args.node c.args.mask c.args.masks.now c.requires c.if-new-old.true

pub returns : goal.returns
returns c =
    let below : slice_index c.args.masks.now c.args.node < 2 ^ 64 = omega arith in
    mask_new c.args.node c.args.mask c.args.masks.now c.requires c.if-new-old.false below
