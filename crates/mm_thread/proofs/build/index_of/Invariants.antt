use Rattle.mm_thread.proofs.RowIndex.{IsIndexBelow}
use Rattle.mm_thread.proofs.build.index_of.Given as goal

abbrev pub invariant-loop-i : goal.invariant-loop-i
invariant-loop-i l = IsIndexBelow l.rows l.index l.i
