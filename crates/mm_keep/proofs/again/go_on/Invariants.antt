use Rattle.std.proofs.Common.{take}
use Rattle.std.specs.List.{flat_map}
use Rattle.mm_keep.specs.Searching.{Derives, goes_on_facts}
use Rattle.mm_keep.proofs.again.go_on.Given as goal

abbrev pub invariant-loop-k : goal.invariant-loop-k
invariant-loop-k l = Derives l.kernel.image l.kernel.kept (flat_map (goes_on_facts l.kernel.image l.kernel.kept l.initial.tables) (take l.k l.initial.tables.faulted)) l.initial.tables l.tables
