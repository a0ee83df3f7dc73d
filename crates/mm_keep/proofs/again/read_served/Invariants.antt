use Rattle.std.proofs.Common.{take}
use Rattle.std.specs.List.{flat_map}
use Rattle.mm_keep.specs.Claims.{AddsFacts}
use Rattle.mm_keep.specs.Searching.{read_facts}
use Rattle.mm_keep.proofs.again.read_served.Given as goal

abbrev pub invariant-loop-k : goal.invariant-loop-k
invariant-loop-k l = AddsFacts l.kernel.image l.kernel.kept (flat_map (read_facts l.kernel.image l.kernel.kept l.origin l.reg l.from l.next) (take l.k l.initial.tables.faulted)) l.initial.tables l.tables
