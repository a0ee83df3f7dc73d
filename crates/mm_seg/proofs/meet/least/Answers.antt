use Rattle.std.proofs.Common.{◌≤◌, ◌⊎◌, inl, inr, arith}
use Rattle.mm_seg.specs.Segments.{segment_at, end_of}
use Rattle.mm_seg.proofs.Commons.{least_here, pass_left, pass_right, none_left, some_in}
use Rattle.mm_seg.proofs.meet.least.Goals.{then-x-y, else-x-y, else-x-y_end-via-then-x-y_end+else-y-x_end}
use Rattle.mm_seg.proofs.meet.least.Goals.{else-x-y_end-via-else-x-y_end}
use Rattle.mm_seg.proofs.meet.least.Goals as goal

pub returns-then-y-x_end : goal.returns-then-y-x_end
returns-then-y-x_end c =
    let ex = c.end-x_end.ensures in
    let ey = c.end-y_end.ensures in
    let here = least_here c.args.xs.now c.args.ys.now c.requires.left c.requires.right c.loop-i.i c.loop-i.j c.loop-i-test.true c.if-j-ys.true c.loop-i.invariant c.if-x-y.result in
    elim c.if-x-y.branch [
      | then-x-y w ↦ let r = w.result-is in let lt = w.if-x-y.true in here (omega arith) (omega arith)
          (inr (omega arith)) (omega arith) (let seg = c.requires.right.segments c.loop-i.j c.if-j-ys.true in let some =
          some_in (segment_at c.args.ys.now c.loop-i.j) in omega arith)
      | else-x-y w ↦ let r = w.result-is in let le = w.if-x-y.false in here (omega arith) (omega arith)
          (inl (omega arith)) (let some = some_in (segment_at c.args.xs.now c.loop-i.i) in omega arith) (omega arith)
    ]

pub loop-i-preserved-then-x_end-y_end : goal.loop-i-preserved-then-x_end-y_end
loop-i-preserved-then-x_end-y_end c =
    let ex = c.end-x_end.ensures in
    let ey = c.end-y_end.ensures in
    let off : (end_of (segment_at c.args.ys.now c.loop-i.j) ≤ (segment_at c.args.xs.now c.loop-i.i).0) ⊎ (end_of (segment_at c.args.xs.now c.loop-i.i) ≤ (segment_at c.args.ys.now c.loop-i.j).0) =
    elim c.else-x-y_end.branch [
      | else-x-y_end-via-then-x-y_end+else-y-x_end w ↦ let h = w.if-y-x_end.false in inr (omega arith)
      | else-x-y_end-via-else-x-y_end w ↦ let h = w.if-x-y_end.false in inl (omega arith)
    ] in
    pass_left c.args.xs.now c.args.ys.now c.requires.left c.requires.right c.loop-i.i c.loop-i.j c.loop-i-test.true c.if-j-ys.true c.loop-i.invariant off (omega arith)

pub loop-i-preserved : goal.loop-i-preserved
loop-i-preserved c =
    let ex = c.end-x_end.ensures in
    let ey = c.end-y_end.ensures in
    let off : (end_of (segment_at c.args.ys.now c.loop-i.j) ≤ (segment_at c.args.xs.now c.loop-i.i).0) ⊎ (end_of (segment_at c.args.xs.now c.loop-i.i) ≤ (segment_at c.args.ys.now c.loop-i.j).0) =
    elim c.else-x-y_end.branch [
      | else-x-y_end-via-then-x-y_end+else-y-x_end w ↦ let h = w.if-y-x_end.false in inr (omega arith)
      | else-x-y_end-via-else-x-y_end w ↦ let h = w.if-x-y_end.false in inl (omega arith)
    ] in
    pass_right c.args.xs.now c.args.ys.now c.requires.left c.requires.right c.loop-i.i c.loop-i.j c.loop-i-test.true c.if-j-ys.true c.loop-i.invariant off (omega arith)

pub returns-else-j-ys : goal.returns-else-j-ys
returns-else-j-ys c = none_left c.args.xs.now c.args.ys.now c.loop-i.i c.loop-i.j c.loop-i.invariant (inr c.if-j-ys.false)

pub returns-after-loop-i : goal.returns-after-loop-i
returns-after-loop-i c = none_left c.args.xs.now c.args.ys.now c.loop-i.i c.loop-i.j c.loop-i.invariant (inl c.loop-i-test.false)
