use Rattle.std.proofs.Common.{◌≡◌, ◌++◌, map}
use Rattle.mm_model.specs.Spelling.{bitmap}
use Rattle.mm_object.specs.declared.item.Item.{Item}
use Rattle.mm_object.proofs.writing.put_full_bits.Given as goal

abbrev pub invariant-loop-k : goal.invariant-loop-k
invariant-loop-k l = l.out.items ≡ l.initial.out.items ++ bitmap l.k (map (λ (i : Item). i.full) l.items)
