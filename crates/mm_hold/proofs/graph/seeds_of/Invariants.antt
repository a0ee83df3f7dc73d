use Rattle.std.proofs.Common.{◌≡◌, ◌++◌}
use Rattle.std.specs.List.{All, flat_map}
use Rattle.mm_graph.specs.Key.{IsKey}
use Rattle.mm_hold.specs.Graphs.{had_seeds}
use Rattle.mm_hold.proofs.graph.seeds_of.Given as goal

abbrev pub invariant-loop-had : goal.invariant-loop-had
invariant-loop-had l = record {
  items : l.seeds.items ++ flat_map (had_seeds l.kernel.image l.kernel.kept) l.had-iterator ≡ flat_map (had_seeds l.kernel.image l.kernel.kept) l.conduct.has.keys;
  keys : All (λ s. IsKey s.key) l.seeds.items;
}
