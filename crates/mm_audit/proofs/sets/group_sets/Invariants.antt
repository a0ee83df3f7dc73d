use Rattle.mm_audit.specs.GroupSets.{AreGroupSets}
use Rattle.mm_audit.proofs.sets.group_sets.Given as goal

abbrev pub invariant-loop-g : goal.invariant-loop-g
invariant-loop-g l = AreGroupSets l.spans l.how l.g l.sets
