use Rattle.std.proofs.Common.{take}
use Rattle.std.specs.List.{flat_map}
use Rattle.mm_keep.specs.Claims.{AddsFacts}
use Rattle.mm_keep.specs.Searching.{loaded_facts}
use Rattle.mm_keep.proofs.again.load_stored.Given as goal

abbrev pub invariant-loop-k : goal.invariant-loop-k
invariant-loop-k l = AddsFacts l.kernel.image l.kernel.kept (flat_map (loaded_facts l.kernel.image l.kernel.kept l.part l.reg l.next) (take l.k l.initial.tables.stored)) l.initial.tables l.tables
