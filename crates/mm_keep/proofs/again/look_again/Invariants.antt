use Rattle.std.proofs.Common.{take}
use Rattle.std.specs.List.{flat_map}
use Rattle.mm_keep.specs.Searching.{Derives, follows_from}
use Rattle.mm_keep.proofs.again.look_again.Given as goal

abbrev pub invariant-loop-outcome : goal.invariant-loop-outcome
invariant-loop-outcome l = Derives l.kernel.image l.kernel.kept (flat_map (follows_from l.kernel.image l.kernel.kept l.initial.tables l.t) (take l.outcome-index l.outcome-items)) l.initial.tables l.tables
