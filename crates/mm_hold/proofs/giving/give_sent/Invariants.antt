use Rattle.std.proofs.Common.{take}
use Rattle.mm_hold.specs.Marks.{Adds, Handed, SlotMeets}
use Rattle.mm_hold.proofs.giving.give_sent.Given as goal

abbrev pub invariant-loop-one : goal.invariant-loop-one
invariant-loop-one l = Adds (Handed (take l.one-index l.sent) (SlotMeets l.meets)) l.fn.marks l.marks l.changed
