use Rattle.std.proofs.Common.{◌≡◌, ◌++◌, take}
use Rattle.std.specs.List.{flat_map}
use Rattle.mm_hold.specs.Deeds.{went_on}
use Rattle.mm_hold.proofs.going.put_resumes.Given as goal

abbrev pub invariant-loop-k : goal.invariant-loop-k
invariant-loop-k l = l.deeds.items ≡ l.initial.deeds.items ++ flat_map (went_on l.kernel.kept l.origin l.how) (take l.k l.tables.faulted)
