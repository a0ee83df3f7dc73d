use Rattle.std.proofs.Common.{◌≡◌, ◌++◌, take, map}
use Rattle.mm_graph.specs.declared.found.Found.{Found}
use Rattle.mm_graph.proofs.keys.add_found.Given as goal

abbrev pub invariant-loop-f : goal.invariant-loop-f
invariant-loop-f l = l.keys.items ≡ l.fn.keys.items ++ map (λ (f : Found). f.key) (take l.f-index l.found)
