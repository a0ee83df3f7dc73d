use Rattle.std.proofs.Common.{◌≡◌, ◌++◌, take}
use Rattle.std.specs.List.{flat_map}
use Rattle.mm_hold.specs.Deeds.{loaded_with}
use Rattle.mm_hold.proofs.going.put_loaded_later.Given as goal

abbrev pub invariant-loop-k : goal.invariant-loop-k
invariant-loop-k l = l.deeds.items ≡ l.initial.deeds.items ++ flat_map (loaded_with l.kernel.kept l.part l.reg l.next) (take l.k l.tables.stored)
