use Rattle.mm_config.specs.{Noting.IsSameTree}
use Rattle.mm_config.proofs.put_memory.raised.Given as goal

abbrev pub invariant-loop-k : goal.invariant-loop-k
invariant-loop-k l = IsSameTree l.fn.pairs l.names l.pairs (record l.names { height = l._k; pages = l.tree })
