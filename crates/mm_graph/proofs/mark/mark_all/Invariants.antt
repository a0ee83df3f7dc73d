use Rattle.std.proofs.Common.{take}
use Rattle.mm_graph.specs.Nodes.{IsMarks}
use Rattle.mm_graph.proofs.mark.mark_all.Given as goal

abbrev pub invariant-loop-k : goal.invariant-loop-k
invariant-loop-k l = IsMarks l.keys (take l.k l.seeds) l.marks
