use Rattle.std.{proofs.Common.{◌<◌, ◌^◌, take}, specs.List.AllByRecursion}
use Rattle.mm_object.specs.declared.item.Item.{Item}
use Rattle.mm_object.proofs.segments.hold_words.Given as goal

abbrev pub invariant-loop-item : goal.invariant-loop-item
invariant-loop-item l = AllByRecursion (λ (item : Item). item.bits < 2 ^ 64) (take l.item-index l.items)
