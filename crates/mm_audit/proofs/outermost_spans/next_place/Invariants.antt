use Rattle.std.proofs.Common.{◌≡◌, drop}
use Rattle.mm_audit.specs.Walks.{outermost}
use Rattle.mm_audit.proofs.outermost_spans.next_place.Given as goal

abbrev pub invariant-loop-k : goal.invariant-loop-k
invariant-loop-k l = outermost l.how l.groups l.from (drop l.at l.spans) ≡ outermost l.how l.groups l.from (drop l.k l.spans)
