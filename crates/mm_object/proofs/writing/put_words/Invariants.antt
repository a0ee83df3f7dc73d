use Rattle.std.{proofs.Common.{◌≡◌, ◌++◌, take}, specs.{List.flat_map, Int.{w64, to_be_bytes}}}
use Rattle.mm_object.specs.declared.item.Item.{Item}
use Rattle.mm_object.proofs.writing.put_words.Given as goal

abbrev pub invariant-loop-item : goal.invariant-loop-item
invariant-loop-item l = l.out.items ≡ l.initial.out.items ++ flat_map (λ (i : Item). to_be_bytes w64 i.bits) (take l.item-index l.items)
