use Rattle.std.proofs.Common.{take}
use Rattle.mm_explore.specs.Searching.{AreSetsSeen}
use Rattle.mm_explore.proofs.search.Search.busy_slots.Given as goal

abbrev pub invariant-loop-at : goal.invariant-loop-at
invariant-loop-at l = AreSetsSeen l.img l.self.found (take l.at l.self.found) l.busy.entries
