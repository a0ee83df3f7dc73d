use Rattle.mm_config.specs.Putting.{AreCellsSoFar}
use Rattle.mm_config.proofs.put_memory.put_page.Given as goal

abbrev pub invariant-loop-at : goal.invariant-loop-at
invariant-loop-at l = AreCellsSoFar l.store l.was l.wanted l.at-index l.number l.fn.mem l.mem
