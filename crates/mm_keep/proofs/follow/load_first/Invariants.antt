use Rattle.std.proofs.Common.{take}
use Rattle.std.specs.List.{flat_map}
use Rattle.mm_keep.specs.Claims.{AddsFacts}
use Rattle.mm_keep.specs.Searching.{loaded_facts}
use Rattle.mm_keep.proofs.follow.load_first.Given as goal

abbrev pub invariant-loop-held : goal.invariant-loop-held
invariant-loop-held l = AddsFacts l.kernel.image l.kernel.kept (flat_map (loaded_facts l.kernel.image l.kernel.kept l.part l.reg l.next) (take l.held-index l.first)) l.initial.tables l.tables
