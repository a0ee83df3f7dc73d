use Rattle.std.proofs.Common.{◌<◌, ◌^◌, slice_index, arith}
use Rattle.mm_flow.proofs.Masks.{propagated_kept, propagated_silent, propagated_moved, stays_kept, stays_covered}
use Rattle.mm_flow.proofs.Masks.{stays_waiting, stays_moved}
use Rattle.mm_flow.proofs.flow.propagate.Goals as goal

pub returns-then-new-old-clause-marks : goal.returns-then-new-old-clause-marks
returns-then-new-old-clause-marks c =
    let below : slice_index c.args.marks.now c.args.to < 2 ^ 64 = omega arith in
    propagated_kept c.args.marks.now c.args.work.now.pending.items c.args.mask c.args.to c.requires.node below c.if-new-old.true

pub returns-then-new-old-clause-stays : goal.returns-then-new-old-clause-stays
returns-then-new-old-clause-stays c =
    let below : slice_index c.args.marks.now c.args.to < 2 ^ 64 = omega arith in
    stays_kept c.args.marks.now c.args.work.now.pending.items c.args.mask c.args.to c.requires.node below c.args.work.now.propagated.items c.if-new-old.true

pub returns-then-has_propagated-clause-marks : goal.returns-then-has_propagated-clause-marks
returns-then-has_propagated-clause-marks c =
    let below : slice_index c.args.marks.now c.args.to < 2 ^ 64 = omega arith in
    propagated_silent c.args.marks.now c.args.work.now.pending.items c.args.mask c.args.to c.requires.node below c.if-new-old.false

pub returns-then-has_propagated-clause-stays : goal.returns-then-has_propagated-clause-stays
returns-then-has_propagated-clause-stays c =
    let below : slice_index c.args.marks.now c.args.to < 2 ^ 64 = omega arith in
    stays_covered c.args.marks.now c.args.work.now.pending.items c.args.mask c.args.to c.requires.node below c.args.work.now.propagated.items (c.has_propagated.ensures.0 c.if-has_propagated.true)

pub returns-then-not-has_propagated-clause-marks : goal.returns-then-not-has_propagated-clause-marks
returns-then-not-has_propagated-clause-marks c =
    let below : slice_index c.args.marks.now c.args.to < 2 ^ 64 = omega arith in
    propagated_silent c.args.marks.now c.args.work.now.pending.items c.args.mask c.args.to c.requires.node below c.if-new-old.false

pub returns-then-not-has_propagated-clause-stays : goal.returns-then-not-has_propagated-clause-stays
returns-then-not-has_propagated-clause-stays c =
    let below : slice_index c.args.marks.now c.args.to < 2 ^ 64 = omega arith in
    stays_waiting c.args.marks.now c.args.work.now.pending.items c.args.mask c.args.to c.requires.node below
    c.args.work.now.propagated.items (λ e. let yes = c.has_propagated-2.ensures.1 e in let no =
    c.if-not-has_propagated.true in cc)

pub returns-clause-marks : goal.returns-clause-marks
returns-clause-marks c =
    let below : slice_index c.args.marks.now c.args.to < 2 ^ 64 = omega arith in
    rw c.in_ok-push_back.ensures.items (propagated_moved c.args.marks.now c.args.work.now.pending.items c.args.mask c.args.to c.requires.node below c.if-new-old.false)

pub returns-clause-stays : goal.returns-clause-stays
returns-clause-stays c =
    let below : slice_index c.args.marks.now c.args.to < 2 ^ 64 = omega arith in
    rw c.in_ok-push_back.ensures.items (stays_moved c.args.marks.now c.args.work.now.pending.items c.args.mask c.args.to c.requires.node below c.args.work.now.propagated.items)
