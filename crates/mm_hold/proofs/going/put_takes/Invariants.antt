use Rattle.std.proofs.Common.{◌≡◌, ◌++◌, take}
use Rattle.std.specs.List.{flat_map}
use Rattle.mm_hold.specs.Deeds.{took}
use Rattle.mm_hold.proofs.going.put_takes.Given as goal

abbrev pub invariant-loop-k : goal.invariant-loop-k
invariant-loop-k l = l.deeds.items ≡ l.initial.deeds.items ++ flat_map (took l.kernel.kept l.origin l.reg l.next) (take l.k l.tables.events)
