use Rattle.std.proofs.Common.{List, take}
use Rattle.std.specs.List.{flat_map}
use Rattle.mm_model.specs.Image.{Image}
use Rattle.mm_kernel.specs.Segments.{Segment}
use Rattle.mm_keep.specs.Claims.{AddsFacts}
use Rattle.mm_keep.specs.Searching.{written_facts}
use Rattle.mm_keep.proofs.again.write.Given as goal

abbrev pub invariant-loop-k : goal.invariant-loop-k
invariant-loop-k l = (i : Image) (kept : List Segment) → AddsFacts i kept (flat_map (written_facts l.slot l.u) (take l.k l.initial.tables.writes)) l.initial.tables l.tables
