use Rattle.std.proofs.Common.{take}
use Rattle.std.specs.List.{flat_map}
use Rattle.mm_keep.specs.Claims.{AddsFacts}
use Rattle.mm_keep.specs.Searching.{enter_facts}
use Rattle.mm_keep.proofs.again.enter_doors.Given as goal

abbrev pub invariant-loop-k : goal.invariant-loop-k
invariant-loop-k l = AddsFacts l.kernel.image l.kernel.kept (flat_map (enter_facts l.kernel.image l.kernel.kept l.handlers) (take l.k l.initial.tables.doors)) l.initial.tables l.tables
