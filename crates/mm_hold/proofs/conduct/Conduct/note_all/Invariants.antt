use Rattle.std.proofs.Common.{take}
use Rattle.mm_hold.specs.Conducts.{Notes}
use Rattle.mm_hold.proofs.conduct.Conduct.note_all.Given as goal

abbrev pub invariant-loop-deed : goal.invariant-loop-deed
invariant-loop-deed l = Notes (take l.deed-index l.deeds) l.fn.self l.self
