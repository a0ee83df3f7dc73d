use Rattle.std.proofs.Common.{length}
use Rattle.mm_hold.specs.Exactly.{IsSound}
use Rattle.mm_hold.specs.Marks.{HasSize, room_of}
use Rattle.mm_hold.specs.Standing.{Grew}
use Rattle.mm_hold.proofs.rounds.until_still.Given as goal

abbrev pub invariant-loop : goal.invariant-loop
invariant-loop l = HasSize l.marks (length l.graph.parents.items) × IsSound l.kernel.image l.kernel.kept l.graph.keys.items l.marks × Grew l.fn.marks l.marks

abbrev pub decreases-loop : goal.decreases-loop
decreases-loop l = room_of l.marks
