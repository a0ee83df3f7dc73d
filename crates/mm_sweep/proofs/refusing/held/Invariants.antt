use Rattle.mm_sweep.proofs.FirstSlots.{NoneBefore}
use Rattle.mm_sweep.proofs.refusing.held.Given as goal

abbrev pub invariant-loop-slot : goal.invariant-loop-slot
invariant-loop-slot l = NoneBefore l.range l.slots l.slot-index
