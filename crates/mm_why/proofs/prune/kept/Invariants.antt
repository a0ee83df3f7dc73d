use Rattle.mm_why.specs.Pruning.{AreKept}
use Rattle.mm_why.proofs.prune.kept.Given as goal

abbrev pub invariant-loop-k : goal.invariant-loop-k
invariant-loop-k l = AreKept l.lines l.needed l.k l.places.items l.out.items
