use Rattle.mm_hold.specs.Holdings.{AreDoorMarks}
use Rattle.mm_hold.proofs.reached.door_marks.Given as goal

abbrev pub invariant-loop-node : goal.invariant-loop-node
invariant-loop-node l = AreDoorMarks l.kept l.keys l.marks l.node l.doors.items
