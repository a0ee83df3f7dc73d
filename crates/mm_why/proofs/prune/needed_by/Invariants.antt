use Rattle.std.proofs.Common.{◌+◌, ◌-◌}
use Rattle.mm_why.specs.Pruning.{Needs}
use Rattle.mm_why.proofs.prune.needed_by.Given as goal

abbrev pub invariant-loop-k : goal.invariant-loop-k
invariant-loop-k l = Needs l.lines l.last (l.last + 1 - l.k) l.needed.items
