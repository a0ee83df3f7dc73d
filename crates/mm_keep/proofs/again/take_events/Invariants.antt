use Rattle.std.proofs.Common.{take}
use Rattle.std.specs.List.{flat_map}
use Rattle.mm_keep.specs.Claims.{AddsFacts}
use Rattle.mm_keep.specs.Searching.{taken_facts}
use Rattle.mm_keep.proofs.again.take_events.Given as goal

abbrev pub invariant-loop-k : goal.invariant-loop-k
invariant-loop-k l = AddsFacts l.kernel.image l.kernel.kept (flat_map (taken_facts l.kernel.image l.kernel.kept l.origin l.reg l.next) (take l.k l.initial.tables.events)) l.initial.tables l.tables
