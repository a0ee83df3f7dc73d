use Rattle.std.proofs.Common.{take}
use Rattle.mm_hold.specs.{Marks.{Adds, Handed}, Parties.ServedParty}
use Rattle.mm_hold.proofs.giving.give_given.Given as goal

abbrev pub invariant-loop-one : goal.invariant-loop-one
invariant-loop-one l = Adds (Handed (take l.one-index l.given) (ServedParty l.kernel.image l.kernel.kept l.kernel.image.slots)) l.fn.marks l.marks l.changed
