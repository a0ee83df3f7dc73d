use Rattle.std.proofs.Common.{take}
use Rattle.std.specs.List.{flat_map}
use Rattle.mm_keep.specs.Claims.{AddsFacts}
use Rattle.mm_keep.specs.Searching.{resumed_facts}
use Rattle.mm_keep.proofs.again.resume.Given as goal

abbrev pub invariant-loop-k : goal.invariant-loop-k
invariant-loop-k l = AddsFacts l.kernel.image l.kernel.kept (flat_map (resumed_facts l.kernel.image l.kernel.kept l.slot l.u) (take l.k l.initial.tables.resumes)) l.initial.tables l.tables
