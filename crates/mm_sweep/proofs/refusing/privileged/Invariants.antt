use Rattle.mm_sweep.proofs.FirstGroups.{NoGroupBefore}
use Rattle.mm_sweep.proofs.refusing.privileged.Given as goal

abbrev pub invariant-loop-group : goal.invariant-loop-group
invariant-loop-group l = NoGroupBefore l.survey l.group
