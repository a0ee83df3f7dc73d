use Rattle.std.proofs.Common.{◌≡◌, ◌++◌, take, map}
use Rattle.mm_graph.specs.declared.seed.Seed.{Seed}
use Rattle.mm_graph.proofs.keys.add_seeds.Given as goal

abbrev pub invariant-loop-s : goal.invariant-loop-s
invariant-loop-s l = l.keys.items ≡ l.fn.keys.items ++ map (λ (s : Seed). s.key) (take l.s-index l.seeds)
