use Rattle.std.proofs.Common.{take}
use Rattle.std.specs.List.{flat_map}
use Rattle.mm_keep.specs.Claims.{AddsFacts}
use Rattle.mm_keep.specs.Searching.{stored_facts}
use Rattle.mm_keep.proofs.follow.store.Given as goal

abbrev pub invariant-loop-held : goal.invariant-loop-held
invariant-loop-held l = AddsFacts l.kernel.image l.kernel.kept (flat_map (stored_facts l.part l.form) (take l.held-index l.first)) l.initial.tables l.tables
