use Rattle.std.proofs.Common.{◌≡◌, take, map}
use Rattle.mm_graph.specs.declared.placed.Placed.{Placed}
use Rattle.mm_graph.proofs.placed.keys_in.Given as goal

abbrev pub invariant-loop-p : goal.invariant-loop-p
invariant-loop-p l = l.keys.items ≡ map (λ (p : Placed). p.key) (take l.p-index l.placed)
