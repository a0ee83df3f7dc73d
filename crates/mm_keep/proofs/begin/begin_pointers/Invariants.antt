use Rattle.std.proofs.Common.{take}
use Rattle.std.specs.List.{flat_map}
use Rattle.mm_keep.specs.Claims.{AddsFacts}
use Rattle.mm_keep.specs.Searching.{across_facts}
use Rattle.mm_keep.proofs.begin.begin_pointers.Given as goal

abbrev pub invariant-loop-p : goal.invariant-loop-p
invariant-loop-p l = AddsFacts l.kernel.image l.kernel.kept (flat_map (across_facts l.kernel.kept) (take l.p-index l.pointers)) l.initial.tables l.tables
