use Rattle.mm_thread.specs.Tables.{AreRunners}
use Rattle.mm_thread.proofs.run_mask.runners_of.Given as goal

abbrev pub invariant-loop-row : goal.invariant-loop-row
invariant-loop-row l = AreRunners l.rows l.row-index l.runners
