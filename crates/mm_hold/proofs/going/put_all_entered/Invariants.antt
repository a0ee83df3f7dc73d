use Rattle.std.proofs.Common.{◌≡◌, ◌++◌, take}
use Rattle.std.specs.List.{flat_map}
use Rattle.mm_word.specs.Pointer.{Pointer, enter_result}
use Rattle.mm_hold.specs.Deeds.{entered_by}
use Rattle.mm_hold.proofs.going.put_all_entered.Given as goal

abbrev pub invariant-loop-k : goal.invariant-loop-k
invariant-loop-k l = l.deeds.items ≡ l.initial.deeds.items ++ flat_map (λ (d : Pointer). entered_by l.kernel.image l.kernel.kept d (enter_result d)) (take l.k l.tables.doors)
