use Rattle.std.proofs.Common.{take}
use Rattle.mm_hold.specs.Marks.{GivesBehind}
use Rattle.mm_hold.proofs.giving.give_behind.Given as goal

abbrev pub invariant-loop-one : goal.invariant-loop-one
invariant-loop-one l = GivesBehind (take l.one-index l.behind) l.fn.marks l.marks l.changed
