use Rattle.std.proofs.Common.{map}
use Rattle.mm_object.{specs.Objects.place_of, proofs.Adjacent.AscendBelow}
use Rattle.mm_object.proofs.relocs.in_order.Given as goal

abbrev pub invariant-loop-k : goal.invariant-loop-k
invariant-loop-k l = AscendBelow (map place_of l.relocs) l.k
