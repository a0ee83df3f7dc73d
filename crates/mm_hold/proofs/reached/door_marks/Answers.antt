use Rattle.std.proofs.Common.{◌+◌, sym, subst, arith}
use Rattle.mm_hold.specs.Holdings.{AreDoorMarks}
use Rattle.mm_hold.proofs.Groups.{doors_none, doors_more}
use Rattle.mm_hold.proofs.reached.door_marks.Goals as goal

pub loop-node-init : goal.loop-node-init
loop-node-init c = subst (AreDoorMarks _ _ _ 0) (sym c.new-doors.ensures.items) (doors_none _ _ _)

pub loop-node-preserved : goal.loop-node-preserved
loop-node-preserved c =
    let l = c.loop-node in
    subst (AreDoorMarks c.args.kept.now c.args.keys.now c.args.marks.now (l.node + 1)) (sym c.in_ok-push.ensures.items)
    (doors_more c.args.kept.now c.args.keys.now c.args.marks.now l.node l.doors.items c.door_mask.result l.invariant c.door_mask.ensures)

pub returns : goal.returns
returns c =
    let l = c.loop-node in
    subst (λ n. AreDoorMarks c.args.kept.now c.args.keys.now c.args.marks.now n l.doors.items) (omega arith) l.invariant
