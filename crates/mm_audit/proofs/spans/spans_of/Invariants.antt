use Rattle.mm_audit.specs.Marks.{SpansOf}
use Rattle.mm_audit.proofs.spans.spans_of.Given as goal

abbrev pub invariant-loop-k : goal.invariant-loop-k
invariant-loop-k l = SpansOf l.keys l.nodes l.marks l.privileged l.k l.spans.items
